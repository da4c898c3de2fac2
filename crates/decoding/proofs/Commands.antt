-- The commands of the front panel are a session's ops: of op 1, 4, 5, 6 or 7 a session makes the call that the panel's command is, with the same set, file and
-- other. Assumes nothing.
use mathlib.Core.Bool.{false, true}
use mathlib.Core.List.{List}
use mathlib.Core.Option.{Option, none-ne-some, none, some}
use mathlib.Core.Path.{ap, ◌≡◌}
use Prim.Native.Nat.{ℕ}
use lib.Dec.{eqb, ltb}
use borrow.Author.Tests.{eqb-true}
use Rattle.base.specs.Logic.{test?}
use Rattle.decoding.specs.Decoding.{CallFields, Request, all_zero, ask, bad, request_of, unless}
use Rattle.rules.specs.Numbers.{Call, create, delete, make, remove}
use Rattle.tables.specs.Panel.{command_of}

-- the call that is asked for
abbrev asked : Request → Option Call
asked bad = none
asked (ask op c) = some c

not_bad : {P : Type 0} (op : ℕ) (c : Call) → bad ≡ ask op c → P
not_bad op c e = absurd (none-ne-some c (ap asked e))

unless_call : (unused : List ℕ) (k op : ℕ) (d c : Call) → unless unused k d ≡ ask op c → some d ≡ some c
unfolding unless
unless_call unused k op d c h =
    test? (all_zero unused)
    (λ e. let q : ask k d ≡ ask op c = rw e at h in ap asked q)
    (λ e. let q : bad ≡ ask op c = rw e at h in not_bad op c q)

-- THEOREM
pub op_same : (x : CallFields) (op : ℕ) (c : Call) → request_of x ≡ ask op c → (x.op ≡ 2 → ⊥) → (x.op ≡ 3 → ⊥)
    → command_of x.op x.set x.file x.other ≡ some c
unfolding request_of command_of
op_same x op c h n₂ n₃ =
    test? (ltb 4096 x.len) (λ l. let q : bad ≡ ask op c = rw l at h in not_bad op c q) (λ l.
    test? (eqb x.op 1) (λ a. rw a (unless_call _ 1 op (create x.set x.file) c (rw (l, a) at h))) (λ a.
    test? (eqb x.op 2) (λ b. absurd (n₂ (eqb-true x.op 2 b))) (λ b.
    test? (eqb x.op 3) (λ d. absurd (n₃ (eqb-true x.op 3 d))) (λ d.
    test? (eqb x.op 4) (λ e. rw (a, e) (unless_call _ 4 op (delete x.set x.file) c (rw (l, a, b, d, e) at h))) (λ e.
    test? (eqb x.op 5) (λ f. rw (a, e, f) (unless_call _ 5 op (make x.set x.other false) c (rw (l, a, b, d, e, f) at h))) (λ f.
    test? (eqb x.op 6) (λ g. rw (a, e, f, g) (unless_call _ 6 op (make x.set x.other true) c (rw (l, a, b, d, e, f, g) at h))) (λ g.
    test? (eqb x.op 7) (λ k. rw (a, e, f, g, k) (unless_call _ 7 op (remove x.set) c (rw (l, a, b, d, e, f, g, k) at h))) (λ k.
    let q : bad ≡ ask op c = rw (l, a, b, d, e, f, g, k) at h in not_bad op c q))))))))
