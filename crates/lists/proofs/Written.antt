-- Pairs that are written over as many.
use Rattle.std.proofs.Common.{◌≡◌, ◌*◌, ℕ, List, length, arith}
use Rattle.std.proofs.Math.Seq.{take_all}
use Rattle.std.proofs.lemmas.Slice.{put_mid-paste}
use borrow.Rule.Slice.PartMut.{put_mid}
use Rattle.ranges.specs.Store.{pairs, flat}
use Rattle.ranges.specs.Inner.Moves.{over}
use Rattle.ranges.proofs.Flat.{flat-counted, length-flat}

-- the pairs of m times two numbers are those numbers
pub flat-pairs : (zs : List ℕ) (m : ℕ) → length zs ≡ 2 * m → flat (pairs zs) ≡ zs
flat-pairs zs m e = let t = take_all (2 * m) zs (omega arith) in rw t at (flat-counted zs m (omega arith))

pub length-pairs : (zs : List ℕ) (m : ℕ) → length zs ≡ 2 * m → length (pairs zs) ≡ m
length-pairs zs m e = let f = rw (flat-pairs zs m e) at (length-flat (pairs zs)) in omega arith

-- a part that is written over whole
pub over-part : (xs : List ℕ) (at k n : ℕ) (ys zs : List ℕ) → ys ≡ zs → n ≡ k → n ≡ length zs → put_mid at k xs ys ≡ over xs at n zs
unfolding over
over-part xs at k n ys zs e f g = put_mid-paste at k xs ys zs n e f g
