-- What a search holds, and how it goes back.
use Rattle.std.specs.Prelude.{◌≡◌, ℕ, List, ◌++◌, length, take, drop}
use Rattle.terms.specs.declared.Cell.{Cell}
use Rattle.graphs.specs.Links.{restore, Logged}
use Rattle.unification.specs.declared.Snapshot.{Snapshot}
use Rattle.frames.specs.declared.Waiting.{Waiting}
use Rattle.frames.specs.declared.Frame.{Frame}

-- the cells, the links between their nodes, the trail of links, and the goals that wait
pub record Memory : Type 0 where
  pub cells : List Cell
  pub links : List ℕ
  pub trail : List ℕ
  pub waiting : List Waiting

-- what bindings hold once they are rolled back to a snapshot; the goals that wait stay
abbrev pub rolled : Memory → Snapshot → Memory
rolled m s =
    record {
      cells = take s.cells m.cells;
      links = restore m.links (drop s.trail m.trail);
      trail = take s.trail m.trail;
      waiting = m.waiting;
    }

-- what there was when the frame was made
abbrev pub back : Memory → Frame → Memory
back m f =
    record {
      cells = take f.bindings.cells m.cells;
      links = restore m.links (drop f.bindings.trail m.trail);
      trail = take f.bindings.trail m.trail;
      waiting = take f.waiting m.waiting;
    }

-- more came after what there was, and each new link is on the trail
pub record Grown (m m' : Memory) : Type 0 where
  pub more : List Cell
  pub cells : m'.cells ≡ m.cells ++ more
  pub logged : Logged m.links m.trail m'.links m'.trail
  pub later : List Waiting
  pub waiting : m'.waiting ≡ m.waiting ++ later

-- the frame was made here
pub record Marks (m : Memory) (f : Frame) : Type 0 where
  pub cells : f.bindings.cells ≡ length m.cells
  pub trail : f.bindings.trail ≡ length m.trail
  pub waiting : f.waiting ≡ length m.waiting
