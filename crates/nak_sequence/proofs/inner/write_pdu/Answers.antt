-- `write_pdu` meets its contract: the metadata request first, where it is due, and then pairs of the list.
use native.Mathlib.Omega.{arith}
use Prim.Native.Nat.{ℕ, ◌+◌, ◌*◌, ◌-◌, ◌≤◌, ◌<◌, min}
use mathlib.Core.Path.{◌≡◌, ap, ◌∙◌}
use mathlib.Core.Bool.{true, false}
use mathlib.Core.List.{List}
use lib.ListN.{length}
use Rattle.octets.specs.Octets.{with_octets}
use Rattle.nak.specs.Pdu.{Nak, saying, pdu}
use Rattle.nak.specs.Inner as writer
use Rattle.ranges.specs.Range.{Range}
use Rattle.sequence.specs.Entries.{asking_for, entries_in, scope_start, scope_end_of, nak_at}
use Rattle.nak_sequence.specs.Inner.{entry_count}
use Rattle.nak_sequence.proofs.Listed.{first_nak, later_nak, known_nak, few-first, few-later, few-known}
use Rattle.nak_sequence.proofs.inner.write_pdu.Goals as goal

pub overflow_sub-entry_count : goal.overflow_sub-entry_count
overflow_sub-entry_count c = omega (arith, c.entry_count.ensures)

pub overflow_sub-m : goal.overflow_sub-m
overflow_sub-m c =
    let holds : c.min-m.result ≡ min c.args.k (entry_count c.args.rec - c.args.f) = c.min-m.ensures ∙ ap (λ (e : ℕ). min c.args.k (e - c.args.f)) c.entry_count.ensures in
    let some : 1 ≤ c.args.k = c.requires.good_lengths.1.1.0 in
    let within : c.args.f < entry_count c.args.rec = c.requires.good_lengths.1.1.1.1 in
    omega (arith, holds, some, within)

pub write_from-requires : goal.write_from-requires
write_from-requires c =
    let meant : Nak = nak_at (asking_for c.args.rec c.args.list.now c.args.order.form c.args.order.identity c.args.k) c.args.f in
    let room : 2 * c.args.rec.count ≤ length c.args.list.now = c.requires.good_lengths.1.0.0 in
    let starts : c.scope_start-start.result ≡ scope_start (entries_in c.args.rec c.args.list.now) c.args.f = c.scope_start-start.ensures in
    let ends : c.scope_end-end.result ≡ scope_end_of (entries_in c.args.rec c.args.list.now) c.args.rec.progress c.args.k c.args.f = c.scope_end-end.ensures in
    let holds : c.min-m.result ≡ min c.args.k (entry_count c.args.rec - c.args.f) = c.min-m.ensures ∙ ap (λ (e : ℕ). min c.args.k (e - c.args.f)) c.entry_count.ensures in
    let some : 1 ≤ c.args.k = c.requires.good_lengths.1.1.0 in
    let first_fits : c.args.rec.missing ≡ true → c.args.f ≡ 0 → 2 * 0 + 2 * (c.min-m.result - 1) ≤ length c.args.list.now = λ m z.
    few-first c.args.order.form c.args.order.identity c.args.rec c.args.list.now c.args.k c.args.f
    c.scope_start-start.result c.scope_end-end.result c.min-m.result room starts ends holds m z some in
    let said : List Range → Nak = λ es. saying c.args.order.form c.args.order.identity c.scope_start-start.result c.scope_end-end.result es in
    let first : c.args.rec.missing ≡ true → c.args.f ≡ 0 → said (writer.entries true c.args.list.now 0 (c.min-m.result - 1)) ≡
    meant = λ m z. first_nak c.args.order.form c.args.order.identity c.args.rec c.args.list.now
    c.args.k c.args.f c.scope_start-start.result c.scope_end-end.result c.min-m.result room starts ends holds m z some in
    let m = c.if-rec.true in
    let z = c.if-f-eq0.true in
    (c.requires.good_lengths.0, first_fits m z, rw (first m z) c.requires.f_in_bounds)

pub returns-then-f-eq0 : goal.returns-then-f-eq0
returns-then-f-eq0 c =
    let meant : Nak = nak_at (asking_for c.args.rec c.args.list.now c.args.order.form c.args.order.identity c.args.k) c.args.f in
    let done : (n : Nak) (r : ℕ) (l : List ℕ) → n ≡ meant → (r ≡ c.args.at + length (pdu n)) ×
    (l ≡ with_octets c.args.buf.now c.args.at (pdu n)) → (r ≡ c.args.at + length (pdu meant)) ×
    (l ≡ with_octets c.args.buf.now c.args.at (pdu meant)) = λ n r l e w. rw (← e) w in
    let said : List Range → Nak = λ es. saying c.args.order.form c.args.order.identity c.scope_start-start.result c.scope_end-end.result es in
    let room : 2 * c.args.rec.count ≤ length c.args.list.now = c.requires.good_lengths.1.0.0 in
    let starts : c.scope_start-start.result ≡ scope_start (entries_in c.args.rec c.args.list.now) c.args.f = c.scope_start-start.ensures in
    let ends : c.scope_end-end.result ≡ scope_end_of (entries_in c.args.rec c.args.list.now) c.args.rec.progress c.args.k c.args.f = c.scope_end-end.ensures in
    let holds : c.min-m.result ≡ min c.args.k (entry_count c.args.rec - c.args.f) = c.min-m.ensures ∙ ap (λ (e : ℕ). min c.args.k (e - c.args.f)) c.entry_count.ensures in
    let some : 1 ≤ c.args.k = c.requires.good_lengths.1.1.0 in
    let first : c.args.rec.missing ≡ true → c.args.f ≡ 0 → said (writer.entries true c.args.list.now 0 (c.min-m.result - 1)) ≡
    meant = λ m z. first_nak c.args.order.form c.args.order.identity c.args.rec c.args.list.now
    c.args.k c.args.f c.scope_start-start.result c.scope_end-end.result c.min-m.result room starts ends holds m z some in
    let w = done _ _ _ (first c.if-rec.true c.if-f-eq0.true) c.write_from.ensures in record { value = w.0; buf_after = w.1 }

pub write_from-requires-then-rec : goal.write_from-requires-then-rec
write_from-requires-then-rec c =
    let meant : Nak = nak_at (asking_for c.args.rec c.args.list.now c.args.order.form c.args.order.identity c.args.k) c.args.f in
    let room : 2 * c.args.rec.count ≤ length c.args.list.now = c.requires.good_lengths.1.0.0 in
    let starts : c.scope_start-start.result ≡ scope_start (entries_in c.args.rec c.args.list.now) c.args.f = c.scope_start-start.ensures in
    let ends : c.scope_end-end.result ≡ scope_end_of (entries_in c.args.rec c.args.list.now) c.args.rec.progress c.args.k c.args.f = c.scope_end-end.ensures in
    let holds : c.min-m.result ≡ min c.args.k (entry_count c.args.rec - c.args.f) = c.min-m.ensures ∙ ap (λ (e : ℕ). min c.args.k (e - c.args.f)) c.entry_count.ensures in
    let within : c.args.f < entry_count c.args.rec = c.requires.good_lengths.1.1.1.1 in
    let later-fits : c.args.rec.missing ≡ true → (c.args.f ≡ 0 → ⊥) → 2 * (c.args.f - 1) + 2 * c.min-m.result ≤ length c.args.list.now = λ m n.
    few-later c.args.order.form c.args.order.identity c.args.rec c.args.list.now c.args.k c.args.f
    c.scope_start-start.result c.scope_end-end.result c.min-m.result room starts ends holds m n within in
    let said : List Range → Nak = λ es. saying c.args.order.form c.args.order.identity c.scope_start-start.result c.scope_end-end.result es in
    let later : c.args.rec.missing ≡ true → (c.args.f ≡ 0 → ⊥) → said (writer.entries false c.args.list.now (c.args.f - 1) c.min-m.result) ≡
    meant = λ m n. later_nak c.args.order.form c.args.order.identity c.args.rec c.args.list.now
    c.args.k c.args.f c.scope_start-start.result c.scope_end-end.result c.min-m.result room starts ends holds m n within in
    let m = c.if-rec.true in
    let n = c.if-f-eq0.false in
    (c.requires.good_lengths.0, later-fits m n, rw (later m n) c.requires.f_in_bounds)

pub returns-then-rec : goal.returns-then-rec
returns-then-rec c =
    let meant : Nak = nak_at (asking_for c.args.rec c.args.list.now c.args.order.form c.args.order.identity c.args.k) c.args.f in
    let done : (n : Nak) (r : ℕ) (l : List ℕ) → n ≡ meant → (r ≡ c.args.at + length (pdu n)) ×
    (l ≡ with_octets c.args.buf.now c.args.at (pdu n)) → (r ≡ c.args.at + length (pdu meant)) ×
    (l ≡ with_octets c.args.buf.now c.args.at (pdu meant)) = λ n r l e w. rw (← e) w in
    let said : List Range → Nak = λ es. saying c.args.order.form c.args.order.identity c.scope_start-start.result c.scope_end-end.result es in
    let room : 2 * c.args.rec.count ≤ length c.args.list.now = c.requires.good_lengths.1.0.0 in
    let starts : c.scope_start-start.result ≡ scope_start (entries_in c.args.rec c.args.list.now) c.args.f = c.scope_start-start.ensures in
    let ends : c.scope_end-end.result ≡ scope_end_of (entries_in c.args.rec c.args.list.now) c.args.rec.progress c.args.k c.args.f = c.scope_end-end.ensures in
    let holds : c.min-m.result ≡ min c.args.k (entry_count c.args.rec - c.args.f) = c.min-m.ensures ∙ ap (λ (e : ℕ). min c.args.k (e - c.args.f)) c.entry_count.ensures in
    let within : c.args.f < entry_count c.args.rec = c.requires.good_lengths.1.1.1.1 in
    let later : c.args.rec.missing ≡ true → (c.args.f ≡ 0 → ⊥) → said (writer.entries false c.args.list.now (c.args.f - 1) c.min-m.result) ≡
    meant = λ m n. later_nak c.args.order.form c.args.order.identity c.args.rec c.args.list.now
    c.args.k c.args.f c.scope_start-start.result c.scope_end-end.result c.min-m.result room starts ends holds m n within in
    let w = done _ _ _ (later c.if-rec.true c.if-f-eq0.false) c.write_from-then-rec.ensures in record { value = w.0; buf_after = w.1 }

pub write_from-requires-2 : goal.write_from-requires-2
write_from-requires-2 c =
    let meant : Nak = nak_at (asking_for c.args.rec c.args.list.now c.args.order.form c.args.order.identity c.args.k) c.args.f in
    let room : 2 * c.args.rec.count ≤ length c.args.list.now = c.requires.good_lengths.1.0.0 in
    let starts : c.scope_start-start.result ≡ scope_start (entries_in c.args.rec c.args.list.now) c.args.f = c.scope_start-start.ensures in
    let ends : c.scope_end-end.result ≡ scope_end_of (entries_in c.args.rec c.args.list.now) c.args.rec.progress c.args.k c.args.f = c.scope_end-end.ensures in
    let holds : c.min-m.result ≡ min c.args.k (entry_count c.args.rec - c.args.f) = c.min-m.ensures ∙ ap (λ (e : ℕ). min c.args.k (e - c.args.f)) c.entry_count.ensures in
    let within : c.args.f < entry_count c.args.rec = c.requires.good_lengths.1.1.1.1 in
    let known-fits : c.args.rec.missing ≡ false → 2 * c.args.f + 2 * c.min-m.result ≤ length c.args.list.now = λ m.
    few-known c.args.order.form c.args.order.identity c.args.rec c.args.list.now c.args.k c.args.f
    c.scope_start-start.result c.scope_end-end.result c.min-m.result room starts ends holds m within in
    let said : List Range → Nak = λ es. saying c.args.order.form c.args.order.identity c.scope_start-start.result c.scope_end-end.result es in
    let known : c.args.rec.missing ≡ false → said (writer.entries false c.args.list.now c.args.f c.min-m.result) ≡
    meant = λ m. known_nak c.args.order.form c.args.order.identity c.args.rec c.args.list.now
    c.args.k c.args.f c.scope_start-start.result c.scope_end-end.result c.min-m.result room starts ends holds m within in
    let m = c.if-rec.false in
    (c.requires.good_lengths.0, known-fits m, rw (known m) c.requires.f_in_bounds)

pub returns : goal.returns
returns c =
    let meant : Nak = nak_at (asking_for c.args.rec c.args.list.now c.args.order.form c.args.order.identity c.args.k) c.args.f in
    let done : (n : Nak) (r : ℕ) (l : List ℕ) → n ≡ meant → (r ≡ c.args.at + length (pdu n)) ×
    (l ≡ with_octets c.args.buf.now c.args.at (pdu n)) → (r ≡ c.args.at + length (pdu meant)) ×
    (l ≡ with_octets c.args.buf.now c.args.at (pdu meant)) = λ n r l e w. rw (← e) w in
    let said : List Range → Nak = λ es. saying c.args.order.form c.args.order.identity c.scope_start-start.result c.scope_end-end.result es in
    let room : 2 * c.args.rec.count ≤ length c.args.list.now = c.requires.good_lengths.1.0.0 in
    let starts : c.scope_start-start.result ≡ scope_start (entries_in c.args.rec c.args.list.now) c.args.f = c.scope_start-start.ensures in
    let ends : c.scope_end-end.result ≡ scope_end_of (entries_in c.args.rec c.args.list.now) c.args.rec.progress c.args.k c.args.f = c.scope_end-end.ensures in
    let holds : c.min-m.result ≡ min c.args.k (entry_count c.args.rec - c.args.f) = c.min-m.ensures ∙ ap (λ (e : ℕ). min c.args.k (e - c.args.f)) c.entry_count.ensures in
    let within : c.args.f < entry_count c.args.rec = c.requires.good_lengths.1.1.1.1 in
    let known : c.args.rec.missing ≡ false → said (writer.entries false c.args.list.now c.args.f c.min-m.result) ≡
    meant = λ m. known_nak c.args.order.form c.args.order.identity c.args.rec c.args.list.now
    c.args.k c.args.f c.scope_start-start.result c.scope_end-end.result c.min-m.result room starts ends holds m within in
    let w = done _ _ _ (known c.if-rec.false) c.write_from-2.ensures in record { value = w.0; buf_after = w.1 }
