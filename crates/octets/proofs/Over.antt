-- A list with octets written over a part of it: two writes side by side are one write of the joined octets.
use mathlib.Core.Path.{◌≡◌, sym, ap, ◌∙◌}
use mathlib.Core.List.{List, [], ◌++◌, append_assoc, append-nil}
use Prim.Native.Nat.{ℕ, ◌+◌, ◌≤◌}
use native.Mathlib.Nat.{add-zero, add_assoc}
use native.Mathlib.Omega.{arith}
use lib.ListN.{length, take, drop, length-append, length-drop, take-append-drop, drop_of_length-le}
use lib.Seq.{take_at, drop_at, drop-drop, length-take-le}
use Rattle.octets.specs.Octets.{with_octets}

-- no octet changes nothing
pub over_nothing : (xs : List ℕ) (at : ℕ) → with_octets xs at [] ≡ xs
unfolding with_octets
over_nothing xs at = rw (append-nil, add-zero, take-append-drop)

-- the length stays
pub length_over : (xs : List ℕ) (at : ℕ) (a : List ℕ) → at + length a ≤ length xs → length (with_octets xs at a) ≡ length xs
unfolding with_octets
length_over xs at a h = rw (length-append (take at xs ++ a), length-append (take at xs), length-take-le at xs (omega arith), length-drop) (omega arith)

-- a list that is written over whole is what was written
pub over-whole : (xs a : List ℕ) → length a ≡ length xs → with_octets xs 0 a ≡ a
unfolding with_octets
over-whole xs a e = rw (drop_of_length-le xs {i = 0 + length a} (omega arith)) (append-nil a)

-- two writes side by side
pub over-join : (xs : List ℕ) (at m : ℕ) (a b : List ℕ) → at + length a ≡ m → m ≤ length xs → with_octets (with_octets xs at a) m b ≡ with_octets xs at (a ++ b)
unfolding with_octets
over-join xs at m a b e h =
    let p : length (take at xs ++ a) ≡ m = length-append (take at xs) a ∙ rw (length-take-le at xs (omega arith)) e in
    let d : drop (m + length b) (take at xs ++ a ++ drop (at + length a) xs) ≡ drop (at + length (a ++ b)) xs =
    sym (drop-drop (length b) m (take at xs ++ a ++ drop (at + length a) xs)) ∙ ap (drop (length b)) (drop_at (take at xs ++ a) (drop (at + length a) xs) m p) ∙
    drop-drop (length b) (at + length a) xs ∙ rw (length-append a b, add_assoc) in
    rw (take_at (take at xs ++ a) (drop (at + length a) xs) m p, d) (simp append_assoc)

-- the same of three lists, each the one before it once it was written over
pub over_then : (xs : List ℕ) (at m : ℕ) (a b : List ℕ) {ys zs : List ℕ} → ys ≡ with_octets xs at a → zs ≡ with_octets ys m b → at + length a ≡ m → m ≤ length xs → zs ≡ with_octets xs at (a ++ b)
over_then xs at m a b e f h k = f ∙ rw e (over-join xs at m a b h k)
