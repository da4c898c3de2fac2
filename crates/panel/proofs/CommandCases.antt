-- The commands: which values name one, and what a write leaves. Assumes nothing.
use mathlib.Core.Bool.{◌&&◌, Bool, false, true, true≢false}
use mathlib.Core.List.{List, []}
use mathlib.Core.Option.{none, some}
use mathlib.Core.Path.{ap, ap₂, refl, sym, ◌∙◌, ◌≡◌}
use Prim.Native.Nat.{◌<◌, ℕ}
use native.Mathlib.Omega.{arith}
use lib.Dec.{eqb, leb}
use lib.ListN.{get_or, length, length-set, set}
use lib.Seq.{get_or-set_other}
use borrow.Author.Tests.{eq-eqb, eqb-false, leb-true, ne_eqb}
use Rattle.base.specs.Logic.{and_left, and_right, test?}
use Rattle.calls.specs.Outcomes.{answer_meant, outcome}
use Rattle.calls.specs.declared.answer.Answer as declared
use Rattle.panel.specs.Commands.{call_named, is_command}
use Rattle.panel.specs.Outcomes.{panel_outcome}
use Rattle.rules.specs.Numbers.{Answer, Call, no_counts}
use Rattle.tables.proofs.NumberFits.{answer_low}
use Rattle.tables.specs.Calls.{Outcome, call_on}
use Rattle.tables.specs.Panel.{answered, cause_added, command_in, command_of, commanded, entered, no_register, panel_left, panel_write_on, written}

-- ---- the five values

seven : (op : ℕ) → eqb op 1 ≡ false → eqb op 4 ≡ false → eqb op 5 ≡ false → eqb op 6 ≡ false → is_command op ≡ true → eqb op 7 ≡ true
unfolding is_command
seven op a b c d h =
    let q : (leb 4 op && leb op 7) ≡ true = rw a at h in
    let l = leb-true 4 op (and_left (leb 4 op) (leb op 7) q) in
    let m = leb-true op 7 (and_right (leb 4 op) (leb op 7) q) in
    eq-eqb op 7 (omega (arith, eqb-false op 4 b, eqb-false op 5 c, eqb-false op 6 d))

pub named : (op s f o : ℕ) → is_command op ≡ true → command_of op s f o ≡ some (call_named op s f o)
unfolding command_of call_named
named op s f o h =
    test? (eqb op 1) (λ e. rw e refl) (λ a.
    test? (eqb op 4) (λ e. rw (a, e) refl) (λ b.
    test? (eqb op 5) (λ e. rw (a, b, e) refl) (λ c.
    test? (eqb op 6) (λ e. rw (a, b, c, e) refl) (λ d.
    rw (a, b, c, d, seven op a b c d h) refl))))

other_value : (op k : ℕ) → is_command op ≡ false → is_command k ≡ true → eqb op k ≡ false
other_value op k h e = ne_eqb op k (λ q. true≢false (sym (ap is_command q ∙ e) ∙ h))

pub unnamed : (op s f o : ℕ) → is_command op ≡ false → command_of op s f o ≡ none
unfolding command_of is_command
unnamed op s f o h =
    rw (other_value op 1 h refl, other_value op 4 h refl, other_value op 5 h refl, other_value op 6 h refl, other_value op 7 h refl) refl

-- ---- what a write of the command register leaves

pub ran_nothing : (z : declared.Answer) (op : ℕ) (r r' t p : List ℕ) → answer_meant z ≡ no_counts → is_command op ≡ false → r' ≡ cause_added 2 r
    → panel_outcome z r' t p ≡ commanded call_on (command_in op r) r t p
unfolding commanded
ran_nothing z op r r' t p ez h q =
    ap (λ (x : Answer). panel_left x r' t p) ez ∙ (rw (unnamed op (get_or r 4 0) (get_or r 5 0) (get_or r 6 0) h, q) refl)

pub ran_call : (z : declared.Answer) (op s f o : ℕ) (r r' t t' p p' : List ℕ) (a : declared.Answer) (k : Call) → answer_meant z ≡ no_counts → is_command op ≡ true → s ≡ get_or r 4 0
    → f ≡ get_or r 5 0 → o ≡ get_or r 6 0 → k ≡ call_named op s f o → outcome a t' p' [] ≡ call_on k t p → r' ≡ answered (answer_meant a) r
    → panel_outcome z r' t' p' ≡ commanded call_on (command_in op r) r t p
unfolding commanded
ran_call z op s f o r r' t t' p p' a k ez h es ef eo en e q =
    let m : command_in op r ≡ some (call_named op s f o) = rw (es, ef, eo) (named op (get_or r 4 0) (get_or r 5 0) (get_or r 6 0) h) in
    let n : command_in op r ≡ some k = rw en m in
    ap (λ (x : Answer). panel_left x r' t' p') ez ∙ (rw (n, q) (ap (λ (x : Outcome). panel_left no_counts (answered x.answer r) x.tables x.pages) e))

-- its number fits a register
pub number_fits : (a : declared.Answer) (c : Call) (t t' p p' : List ℕ) → outcome a t' p' [] ≡ call_on c t p → a.number < 256
number_fits a c t t' p p' e = let q : a.number ≡ (call_on c t p).answer.number = ap (λ (x : Outcome). x.answer.number) e in omega (arith, answer_low c t p)

-- ---- an accepted write by its cases: a register that is no command, the command

pub write_entered : (a : declared.Answer) (b : Bool) (o v : ℕ) (r r' t p : List ℕ) → answer_meant a ≡ no_counts → b ≡ no_register o r → b ≡ false → (o ≡ 0 → ⊥)
    → r' ≡ entered o v r → panel_outcome a r' t p ≡ panel_write_on call_on o v r t p
unfolding panel_write_on
write_entered a b o v r r' t p ea e h z d =
    let q : no_register o r ≡ false = sym e ∙ h in
    ap (λ (x : Answer). panel_left x r' t p) ea ∙ ap (λ (x : List ℕ). panel_left no_counts x t p) d ∙ (rw (q, ne_eqb o 0 z) refl)

-- a value entered leaves as many registers
pub entered_length : (o v : ℕ) (r r₁ : List ℕ) → r₁ ≡ entered o v r → length r ≡ 16 → length r₁ ≡ 16
entered_length o v r r₁ e l = ap length e ∙ length-set r o (written o (get_or r o 0) v) ∙ l

-- what is entered in the command register changes no number of a command
command_same : (v x : ℕ) (r : List ℕ) → command_in v (set r 0 x) ≡ command_in v r
command_same v x r =
    rw (
      get_or-set_other r 0 4 x 0 (λ e. absurd (omega arith)),
      get_or-set_other r 0 5 x 0 (λ e. absurd (omega arith)),
      get_or-set_other r 0 6 x 0 (λ e. absurd (omega arith)),
    ) refl

pub write_command : (a : declared.Answer) (b : Bool) (o v : ℕ) (r r₁ r' t t' p p' : List ℕ) → b ≡ no_register o r → b ≡ false → o ≡ 0 → r₁ ≡ entered o v r
    → panel_outcome a r' t' p' ≡ commanded call_on (command_in v r₁) r₁ t p → panel_outcome a r' t' p' ≡ panel_write_on call_on o v r t p
unfolding panel_write_on
write_command a b o v r r₁ r' t t' p p' e h z g d =
    let q : no_register o r ≡ false = sym e ∙ h in
    let k : command_in v r₁ ≡ command_in v r =
    ap (command_in v) (g ∙ ap (λ (i : ℕ). set r i (written o (get_or r o 0) v)) z) ∙ command_same v (written o (get_or r o 0) v) r in
    d ∙ ap₂ (λ c x. commanded call_on c x t p) k g ∙ (rw (q, eq-eqb o 0 z) refl)
