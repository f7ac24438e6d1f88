-- `cell_start` meets its contract: i times the file's length, parted by the cells, is made of the length's quotient and remainder.
use Rattle.std.proofs.Common.{◌≡◌, ℕ, ◌+◌, ◌*◌, ◌/◌, ◌%◌, ◌<◌, sym, ap, ◌∙◌}
use Rattle.std.proofs.Math.Nat.{mul-add, mul_assoc, mul-add-div_right}
use Rattle.std.proofs.lemmas.Nat.{div-add-mod'}
use Rattle.console_calls.proofs.inner.map.cell_start.Goals as goal

parts : (i t n : ℕ) → 0 < n → i * (t / n) + i * (t % n) / n ≡ i * t / n
parts i t n h =
    sym (
    ap (λ (x : ℕ). i * x / n) (sym (div-add-mod' t n))
    ∙ ap (λ (x : ℕ). x / n) (mul-add i (t / n * n) (t % n) ∙ ap (λ (x : ℕ). x + i * (t % n)) (sym (mul_assoc i (t / n) n)))
    ∙ mul-add-div_right h (i * (t / n)) (i * (t % n))
    )

pub returns : goal.returns
returns c = parts c.args.i c.args.total c.args.cells c.requires.0
