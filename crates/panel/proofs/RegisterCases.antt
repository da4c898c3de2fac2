-- The registers: when there are none, what a command notes, what a read, the line and a reset give. Assumes nothing.
use mathlib.Core.Bool.{Bool, cond, false, true}
use mathlib.Core.List.{List, []}
use mathlib.Core.Path.{ap, ap₂, refl, sym, ◌∙◌, ◌≡◌}
use Prim.Native.Nat.{◌<◌, ℕ}
use native.Mathlib.Nat.{min-eq_left}
use native.Mathlib.Omega.{arith}
use lib.ListN.{get_or, length, set}
use borrow.Author.Tests.{ne_eqb}
use Rattle.calls.specs.Outcomes.{answer_meant}
use Rattle.calls.specs.declared.answer.Answer as declared
use Rattle.panel.specs.Outcomes.{panel_outcome}
use Rattle.rules.specs.Numbers.{Answer, no_counts, refusal}
use Rattle.tables.proofs.Registers.{register_there}
use Rattle.tables.specs.Panel.{PanelOutcome, answered, cause_of, cause_added, line_of, no_register, panel_left, panel_line_on, panel_read_on, panel_reset_on, reset_values, shown, value_given, value_read}

-- other lengths; sixteen registers
pub none_there : (o : ℕ) (r : List ℕ) → (length r ≡ 16 → ⊥) → true ≡ no_register o r
unfolding no_register
none_there o r h = rw (ne_eqb (length r) 16 h) refl

pub sixteen : (b : Bool) (o : ℕ) (r : List ℕ) → b ≡ no_register o r → b ≡ false → (length r ≡ 16) × (o < 16)
sixteen b o r e h = register_there o r (sym e ∙ h)

-- ---- a command's answer in the registers

shown_low : (n : ℕ) → n < 256 → shown n ≡ n
unfolding shown
shown_low n h = min-eq_left (omega arith)

pub noted : (a : Answer) (r r' : List ℕ) (x n f s t : ℕ) → a.number < 256 → x ≡ cause_of a → r' ≡ cause_added x r → n ≡ shown a.number → f ≡ shown a.first → s ≡ shown a.second
    → t ≡ shown a.third → set (set (set (set r' 1 n) 7 f) 8 s) 9 t ≡ answered a r
unfolding answered
noted a r r' x n f s t h ex er en ef es et = rw (er, ex, en, shown_low a.number h, ef, es, et) refl

-- ---- a call that is refused, whatever it does otherwise

pub refused_call : (a : declared.Answer) (b : Bool) (o : ℕ) (r t p : List ℕ) (x : PanelOutcome) → answer_meant a ≡ refusal 13 → b ≡ no_register o r → b ≡ true
    → panel_outcome a r t p ≡ cond (no_register o r) (panel_left (refusal 13) r t p) x
refused_call a b o r t p x ea e h =
    let q : no_register o r ≡ true = sym e ∙ h in
    ap (λ (y : Answer). panel_left y r t p) ea ∙ (rw q refl)

-- ---- read, line and reset that are accepted

pub value_told : (b : Bool) (o v : ℕ) (r : List ℕ) → b ≡ no_register o r → b ≡ false → v ≡ value_read o r → panel_left (value_given v) r [] [] ≡ panel_read_on o r
unfolding panel_read_on
value_told b o v r e h d = let q : no_register o r ≡ false = sym e ∙ h in ap (λ x. panel_left (value_given x) r [] []) d ∙ (rw q refl)

pub line_told : (b : Bool) (v : ℕ) (r : List ℕ) → b ≡ no_register 0 r → b ≡ false → v ≡ line_of (get_or r 2 0) (get_or r 3 0) → panel_left (value_given v) r [] [] ≡ panel_line_on r
unfolding panel_line_on
line_told b v r e h d = let q : no_register 0 r ≡ false = sym e ∙ h in ap (λ x. panel_left (value_given x) r [] []) d ∙ (rw q refl)

pub reset_done : (a : declared.Answer) (b : Bool) (r r' : List ℕ) → answer_meant a ≡ no_counts → b ≡ no_register 0 r → b ≡ false → r' ≡ reset_values → panel_outcome a r' [] [] ≡ panel_reset_on r
unfolding panel_reset_on
reset_done a b r r' ea e h d =
    let q : no_register 0 r ≡ false = sym e ∙ h in
    ap₂ (λ (x : Answer) (y : List ℕ). panel_left x y [] []) ea d ∙ (rw q refl)
