-- What a stack holds, the newest first; how many that is; and how many it can hold.
use Rattle.std.specs.Prelude.{ℕ, List, reverse, length, take}
use Rattle.unification.specs.declared.stack.Stack.{Stack}

-- the first n elements of a list, the last of them first
unfoldable pub newest : {A : Type 0} → ℕ → List A → List A
newest n xs = reverse (take n xs)

abbrev pub held : {R : Type 0} → Stack R → List R
held s = newest s.len s.items.now

abbrev pub count : {R : Type 0} → Stack R → ℕ
count s = s.len

abbrev pub room : {R : Type 0} → Stack R → ℕ
room s = length s.items.now
