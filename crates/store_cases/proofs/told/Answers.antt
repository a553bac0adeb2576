use Rattle.std.proofs.Common.{◌≡◌, length, replicate, Ok, string_bytes, arith}
use Rattle.store.specs.declared.call.Reply.TheVariants.{OfKeep}
use Rattle.store_cases.proofs.Telling.{tells}
use Rattle.store_cases.proofs.told.Goals as goal

pub returns : goal.returns
returns c =
    let made = c.in-Ok.ensures.made in
    let pairs : length c.as_mut_slice.result.now ≡ 12864 = let a = c.as_mut_slice.ensures.len in let b = c.in_ok-pairs.ensures.len in omega arith in
    let frames : length c.as_mut_slice-2.result.now ≡ 512 = let a = c.as_mut_slice-2.ensures.len in let b = c.in_ok-frames.ensures.len in omega arith in
    tells string_bytes c.listed.result _ _ _ _ _ _ c.args.calls.now _ _ (replicate 16 (OfKeep (Ok tt))) c.in_ok-replay.field-0 c.replay.new.replies c.replay.new.path c.replay.new.out made.0 made.1 pairs frames c.in_ok-replay.ensures c.listed.ensures
