-- The registers of the front panel from reset on. Assumes nothing.
use mathlib.Core.Bool.{◌&&◌, Bool, cond, false, not, true, ◌||◌}
use mathlib.Core.List.{List, ◌∷◌, []}
use mathlib.Core.Logic.{inl, inr, ◌⊎◌}
use mathlib.Core.Option.{Option, none, some}
use mathlib.Core.Path.{ap, refl, subst, sym, ◌∙◌, ◌≡◌}
use Prim.Native.Nat.{◌%◌, ◌*◌, ◌+◌, ◌-◌, ◌<◌, ℕ, ◌≤◌}
use native.Mathlib.Omega.{arith}
use lib.Bits.{and_mask, bit_and, bit_or, or_lt}
use lib.Dec.{eqb, ltb}
use lib.ListN.{get_or, length, length-set, set}
use lib.Seq.{get_or-set_other, get_or-set_same}
use borrow.Author.Tests.{eq-eqb, eqb-false, eqb-true, ltb-false}
use Rattle.base.specs.Count.{all, all_at}
use Rattle.base.specs.Logic.{and_left, and_right, digit, same?, test?}
use Rattle.base.specs.Update.{upd, upd_other, upd_same}
use Rattle.history.specs.Events.{Event, check, check_blocks, compact, convert, current, event_on, events_on, listed, panel_line, panel_read, panel_reset, panel_write, set_term}
use Rattle.history.specs.Image.{Held, Image, gave}
use Rattle.history.specs.Panel.{FromReset, FromResetClaim, Since, cleared_by, command_given, just_reset, since_after, since_of, wrote_at}
use Rattle.packing.specs.Bitmap.{is_one}
use Rattle.packing.specs.Bits.{bit, bit_mod}
use Rattle.rules.specs.Numbers.{Answer, Call}
use Rattle.tables.proofs.NumberFits.{answer_low}
use Rattle.tables.proofs.Registers.{cause_low, cause_masked, offset_told, reset_zero, written_byte, written_full, written_none}
use Rattle.tables.specs.Calls.{call_on}
use Rattle.tables.specs.Panel.{answered, call_run, cause_added, cause_of, command_in, commanded, entered, no_register, panel_line_on, panel_read_on, panel_reset_on, panel_write_on, reset_values, shown, written}

-- ---- one register set

beside : (r : List ℕ) (i k x : ℕ) → (k ≡ i → ⊥) → get_or (set r i x) k 0 ≡ get_or r k 0
beside r i k x n = get_or-set_other r i k x 0 n

there : (r : List ℕ) (i k x : ℕ) → length r ≡ 16 → i < 16 → k ≡ i → get_or (set r i x) k 0 ≡ x
there r i k x l h e = ap (λ (j : ℕ). get_or (set r i x) j 0) e ∙ get_or-set_same r i x 0 (omega arith)

-- what holds of the registers, whatever the last command gave
record Kept (r : List ℕ) : Type 0 where
  sixteen : length r ≡ 16
  bytes : (k : ℕ) → k < 16 → get_or r k 0 < 256
  command : get_or r 0 0 ≡ 0
  cause : get_or r 2 0 < 8
  zeros : (k : ℕ) → 10 ≤ k → k < 16 → get_or r k 0 ≡ 0

-- the value may stand in register i
record May (i x : ℕ) : Type 0 where
  byte : x < 256
  low : i ≡ 2 → x < 8
  zero : (i ≡ 0) ⊎ (10 ≤ i) → x ≡ 0

set_kept : (r : List ℕ) (i x : ℕ) → i < 16 → May i x → Kept r → Kept (set r i x)
set_kept r i x h may f =
    let l : length r ≡ 16 = f.sixteen in
    record {
      sixteen = length-set r i x ∙ l;
      bytes = λ k b. same? k i (λ e. subst (λ y. y < 256) (sym (there r i k x l h e)) may.byte) (λ n. subst (λ y. y < 256) (sym (beside r i k x n)) (f.bytes k b));
      command = same? 0 i (λ e. there r i 0 x l h e ∙ may.zero (inl (sym e))) (λ n. beside r i 0 x n ∙ f.command);
      cause = same? 2 i (λ e. subst (λ y. y < 8) (sym (there r i 2 x l h e)) (may.low (sym e))) (λ n. subst (λ y. y < 8) (sym (beside r i 2 x n)) f.cause);
      zeros = λ k g b. same? k i (λ e. there r i k x l h e ∙ may.zero (inr (omega arith))) (λ n. beside r i k x n ∙ f.zeros k g b);
    }

-- ---- a command

not_zero : (i : ℕ) → 1 ≤ i → i ≤ 9 → (i ≡ 0) ⊎ (10 ≤ i) → ⊥
not_zero i a b (inl e) = absurd (omega arith)
not_zero i a b (inr g) = absurd (omega arith)

cause_may : (r : List ℕ) (b : ℕ) → b < 8 → Kept r → May 2 (bit_or (get_or r 2 0) b)
cause_may r b h f =
    let l : bit_or (get_or r 2 0) b < 8 = or_lt 3 (get_or r 2 0) b f.cause h in
    record { byte = omega arith; low = λ e. l; zero = λ d. absurd (not_zero 2 (omega arith) (omega arith) d) }

added_kept : (b : ℕ) (r : List ℕ) → b < 8 → Kept r → Kept (cause_added b r)
added_kept b r h f = set_kept r 2 (bit_or (get_or r 2 0) b) (omega arith) (cause_may r b h f) f

cause_fits : (a : Answer) → cause_of a < 8
unfolding cause_of
cause_fits a =
    test? (eqb a.number 0)
    (λ e. test? (eqb a.third 0) (λ d. rw (e, d) (omega arith)) (λ d. rw (e, d) (omega arith)))
    (λ e. test? (eqb a.third 0) (λ d. rw (e, d) (omega arith)) (λ d. rw (e, d) (omega arith)))

-- the number and the counts may be any bytes
any_may : (i x : ℕ) → 1 ≤ i → i ≤ 9 → (i ≡ 2 → ⊥) → x < 256 → May i x
any_may i x a b n h = record { byte = h; low = λ e. absurd (n e); zero = λ d. absurd (not_zero i a b d) }

shown_byte : (n : ℕ) → shown n < 256
unfolding shown
shown_byte n = omega arith

answered_kept : (a : Answer) (r : List ℕ) → a.number < 256 → Kept r → Kept (answered a r)
unfolding answered
answered_kept a r h f =
    set_kept _ 9 _ (omega arith) (any_may 9 _ (omega arith) (omega arith) (λ e. absurd (omega arith)) (shown_byte a.third))
    (set_kept _ 8 _ (omega arith) (any_may 8 _ (omega arith) (omega arith) (λ e. absurd (omega arith)) (shown_byte a.second))
    (set_kept _ 7 _ (omega arith) (any_may 7 _ (omega arith) (omega arith) (λ e. absurd (omega arith)) (shown_byte a.first))
    (set_kept _ 1 _ (omega arith) (any_may 1 _ (omega arith) (omega arith) (λ e. absurd (omega arith)) h) (added_kept (cause_of a) r (cause_fits a) f))))

-- ---- a value entered: the cause only loses bits; of the command and from 10 on no bit is writable

entered_kept : (o v : ℕ) (r : List ℕ) → o < 16 → Kept r → Kept (entered o v r)
entered_kept o v r h f = set_kept r o (written o (get_or r o 0) v) h (record { byte = written_byte o (get_or r o 0) v h (f.bytes o h); low = low; zero = none_enters }) f
  where
    low : o ≡ 2 → written o (get_or r o 0) v < 8
    low e = subst (λ (i : ℕ). written i (get_or r i 0) v < 8) (sym e) (cause_low (get_or r 2 0) v 8 f.cause)

    held : (o ≡ 0) ⊎ (10 ≤ o) → get_or r o 0 ≡ 0
    held (inl e) = ap (λ (i : ℕ). get_or r i 0) e ∙ f.command
    held (inr g) = f.zeros o g h

    aside : (o ≡ 0) ⊎ (10 ≤ o) → (o ≤ 1) ⊎ (7 ≤ o)
    aside (inl e) = inl (omega arith)
    aside (inr g) = inr (omega arith)

    none_enters : (o ≡ 0) ⊎ (10 ≤ o) → written o (get_or r o 0) v ≡ 0
    none_enters d = ap (λ (x : ℕ). written o x v) (held d) ∙ written_none o h 0 v (aside d) (omega arith)

-- ---- what the last command gave is shown

record Shows (a : Answer) (r : List ℕ) : Type 0 where
  number : get_or r 1 0 ≡ a.number
  first : get_or r 7 0 ≡ shown a.first
  second : get_or r 8 0 ≡ shown a.second
  third : get_or r 9 0 ≡ shown a.third

-- registers that are the same there
shows_same : (a : Answer) (r r' : List ℕ) → ((k : ℕ) → (k ≡ 1) ⊎ (7 ≤ k) → k < 16 → get_or r' k 0 ≡ get_or r k 0) → Shows a r → Shows a r'
shows_same a r r' same s = record {
  number = same 1 (inl refl) (omega arith) ∙ s.number;
  first = same 7 (inr (omega arith)) (omega arith) ∙ s.first;
  second = same 8 (inr (omega arith)) (omega arith) ∙ s.second;
  third = same 9 (inr (omega arith)) (omega arith) ∙ s.third;
}

added_same : (b : ℕ) (r : List ℕ) (k : ℕ) → (k ≡ 1) ⊎ (7 ≤ k) → k < 16 → get_or (cause_added b r) k 0 ≡ get_or r k 0
added_same b r k (inl e) h = beside r 2 k _ (λ d. absurd (omega arith))
added_same b r k (inr g) h = beside r 2 k _ (λ d. absurd (omega arith))

entered_same : (o v : ℕ) (r : List ℕ) → o < 16 → Kept r → (k : ℕ) → (k ≡ 1) ⊎ (7 ≤ k) → k < 16 → get_or (entered o v r) k 0 ≡ get_or r k 0
entered_same o v r h f k d b = same? k o
    (λ e. there r o k _ f.sixteen h e ∙ written_none o h (get_or r o 0) v (subst (λ (i : ℕ). (i ≤ 1) ⊎ (7 ≤ i)) e (aside d)) (f.bytes o h) ∙ ap (λ (i : ℕ). get_or r i 0) (sym e))
    (λ n. beside r o k _ n)
  where
    aside : (k ≡ 1) ⊎ (7 ≤ k) → (k ≤ 1) ⊎ (7 ≤ k)
    aside (inl e) = inl (omega arith)
    aside (inr g) = inr g

-- the four registers set, of registers q
four : (q : List ℕ) (n f s t : ℕ) → length q ≡ 16 → let z : List ℕ = set (set (set (set q 1 n) 7 f) 8 s) 9 t in
    (get_or z 1 0 ≡ n) × (get_or z 7 0 ≡ f) × (get_or z 8 0 ≡ s) × (get_or z 9 0 ≡ t)
four q n f s t l =
    let q₁ : List ℕ = set q 1 n in
    let q₂ : List ℕ = set q₁ 7 f in
    let q₃ : List ℕ = set q₂ 8 s in
    let l₁ : length q₁ ≡ 16 = length-set q 1 n ∙ l in
    let l₂ : length q₂ ≡ 16 = length-set q₁ 7 f ∙ l₁ in
    let l₃ : length q₃ ≡ 16 = length-set q₂ 8 s ∙ l₂ in (
      beside q₃ 9 1 t (λ e. absurd (omega arith)) ∙ beside q₂ 8 1 s (λ e. absurd (omega arith)) ∙ beside q₁ 7 1 f (λ e. absurd (omega arith)) ∙ there q 1 1 n l (omega arith) refl,
      beside q₃ 9 7 t (λ e. absurd (omega arith)) ∙ beside q₂ 8 7 s (λ e. absurd (omega arith)) ∙ there q₁ 7 7 f l₁ (omega arith) refl,
      beside q₃ 9 8 t (λ e. absurd (omega arith)) ∙ there q₂ 8 8 s l₂ (omega arith) refl,
      there q₃ 9 9 t l₃ (omega arith) refl,
    )

answered_shows : (a : Answer) (r : List ℕ) → length r ≡ 16 → Shows a (answered a r)
unfolding answered
answered_shows a r l =
    let z = four (cause_added (cause_of a) r) a.number (shown a.first) (shown a.second) (shown a.third) (length-set r 2 _ ∙ l) in
    record { number = z.0; first = z.1; second = z.2; third = z.3 }

-- ---- the bits of the cause, for all of them at once, by computing

abbrev sum_of : Bool → Bool → Bool → ℕ
sum_of a r m = digit a + 2 * digit r + 4 * digit m

abbrev every : (Bool → Bool) → Bool
every f = f true && f false

every_at : (f : Bool → Bool) → every f ≡ true → (b : Bool) → f b ≡ true
every_at f h true = and_left (f true) (f false) h
every_at f h false = and_right (f true) (f false) h

abbrev every_cause : (Bool → Bool → Bool → Bool) → Bool
every_cause f = every (λ a. every (λ r. every (λ m. f a r m)))

cause_at : (f : Bool → Bool → Bool → Bool) → every_cause f ≡ true → (a r m : Bool) → f a r m ≡ true
cause_at f h a r m = every_at (f a r) (every_at (λ y. every (f a y)) (every_at (λ x. every (λ y. every (f x y))) h a) r) m

-- a command adds bits
unfoldable adds_right : Bool → Bool → Bool → Bool → Bool → Bool
adds_right n t a r m = eqb (bit_or (sum_of a r m) (cond n 1 2 + cond t 0 4)) (sum_of (a || n) (r || not n) (m || not t))

adds_right_law : every (λ n. every (λ t. every_cause (adds_right n t))) ≡ true
unfolding adds_right
adds_right_law = refl

adds : (n t a r m : Bool) → bit_or (sum_of a r m) (cond n 1 2 + cond t 0 4) ≡ sum_of (a || n) (r || not n) (m || not t)
unfolding adds_right
adds n t a r m =
    eqb-true _ _ (cause_at (adds_right n t) (every_at (λ y. every_cause (adds_right n y)) (every_at (λ x. every (λ y. every_cause (adds_right x y))) adds_right_law n) t) a r m)

-- another value adds bit 1
unfoldable refuses_right : Bool → Bool → Bool → Bool
refuses_right a r m = eqb (bit_or (sum_of a r m) 2) (sum_of a true m)

refuses_right_law : every_cause refuses_right ≡ true
unfolding refuses_right
refuses_right_law = refl

refuses : (a r m : Bool) → bit_or (sum_of a r m) 2 ≡ sum_of a true m
unfolding refuses_right
refuses a r m = eqb-true _ _ (cause_at refuses_right refuses_right_law a r m)

-- ones clear bits; of the value the three lowest count
abbrev cleared : ℕ → Bool → Bool → Bool → ℕ
cleared v a r m = sum_of (a && not (is_one (bit v 0))) (r && not (is_one (bit v 1))) (m && not (is_one (bit v 2)))

unfoldable clears_right : ℕ → Bool → Bool → Bool → Bool
clears_right v a r m = eqb (bit_and (sum_of a r m) (255 - v)) (cleared v a r m)

clears_right_law : all 8 (λ v. every_cause (clears_right v)) ≡ true
unfolding all clears_right bit
clears_right_law = refl

clears : (v : ℕ) (a r m : Bool) → bit_and (sum_of a r m) (255 - bit_and v 7) ≡ cleared v a r m
unfolding clears_right
clears v a r m =
    let q : bit_and v 7 ≡ v % 8 = and_mask v 3 in
    let z : bit (v % 8) 0 ≡ bit v 0 = bit_mod 3 0 v (omega arith) in
    let o : bit (v % 8) 1 ≡ bit v 1 = bit_mod 3 1 v (omega arith) in
    let t : bit (v % 8) 2 ≡ bit v 2 = bit_mod 3 2 v (omega arith) in
    ap (λ (w : ℕ). bit_and (sum_of a r m) (255 - w)) q
    ∙ eqb-true _ _ (cause_at (clears_right (v % 8)) (all_at 8 (λ w. every_cause (clears_right w)) clears_right_law (v % 8) (omega arith)) a r m)
    ∙ (rw (z, o, t) refl)

-- ---- any event

record Stands (x : Since) (r : List ℕ) : Type 0 where
  kept : Kept r
  shows : Shows x.last r
  cause : get_or r 2 0 ≡ sum_of x.accepted x.refused x.marked
  writable : (k : ℕ) → 3 ≤ k → k ≤ 6 → get_or r k 0 ≡ x.values k % 256

-- the cause, and what is beside it, after a command
answered_there : (a : Answer) (r : List ℕ) (k : ℕ) → 2 ≤ k → k ≤ 6 → get_or (answered a r) k 0 ≡ get_or (cause_added (cause_of a) r) k 0
unfolding answered
answered_there a r k l h =
    let q : List ℕ = cause_added (cause_of a) r in
    let q₁ : List ℕ = set q 1 a.number in
    let q₂ : List ℕ = set q₁ 7 (shown a.first) in
    let q₃ : List ℕ = set q₂ 8 (shown a.second) in
    beside q₃ 9 k (shown a.third) (λ e. absurd (omega arith)) ∙ beside q₂ 8 k (shown a.second) (λ e. absurd (omega arith)) ∙ beside q₁ 7 k (shown a.first) (λ e. absurd (omega arith))
    ∙ beside q 1 k a.number (λ e. absurd (omega arith))

cause_answered : (a : Answer) (r : List ℕ) (p q t : Bool) → length r ≡ 16 → get_or r 2 0 ≡ sum_of p q t
    → get_or (answered a r) 2 0 ≡ sum_of (p || eqb a.number 0) (q || not (eqb a.number 0)) (t || not (eqb a.third 0))
unfolding cause_of
cause_answered a r p q t l e =
    answered_there a r 2 (omega arith) (omega arith) ∙ there r 2 2 _ l (omega arith) refl ∙ ap (λ (c : ℕ). bit_or c (cause_of a)) e ∙ adds (eqb a.number 0) (eqb a.third 0) p q t

command_stands : (o : Option Call) (x : Since) (r : List ℕ) (m : Image) → Stands x r → Stands (command_given o m x) (commanded call_on o r m.tables m.pages).registers
unfolding commanded
command_stands none x r m s = record {
  kept = added_kept 2 r (omega arith) s.kept;
  shows = shows_same x.last r (cause_added 2 r) (added_same 2 r) s.shows;
  cause = there r 2 2 _ s.kept.sixteen (omega arith) refl ∙ ap (λ (c : ℕ). bit_or c 2) s.cause ∙ refuses x.accepted x.refused x.marked;
  writable = λ k a b. beside r 2 k _ (λ e. absurd (omega arith)) ∙ s.writable k a b;
}
command_stands (some c) x r m s =
    let b : Answer = (gave c m).answer in
    record {
      kept = answered_kept b r (answer_low c m.tables m.pages) s.kept;
      shows = answered_shows b r s.kept.sixteen;
      cause = cause_answered b r x.accepted x.refused x.marked s.kept.sixteen s.cause;
      writable = λ k l h. answered_there b r k (omega arith) h ∙ beside r 2 k _ (λ e. absurd (omega arith)) ∙ s.writable k l h;
    }

module _ (v : ℕ) (x : Since) (r : List ℕ) (s : Stands x r) where
  module _ (o : ℕ) (h : o < 16) where
    entered_shows : Shows x.last (entered o v r)
    entered_shows = shows_same x.last r (entered o v r) (entered_same o v r h s.kept) s.shows

    entered_stands : (o ≡ 2 → ⊥) → Stands (wrote_at o v x) (entered o v r)
    entered_stands n = record {
      kept = entered_kept o v r h s.kept;
      shows = entered_shows;
      cause = beside r o 2 _ (λ e. absurd (n (sym e))) ∙ s.cause;
      writable = λ k a b. same? k o
          (λ e. there r o k _ s.kept.sixteen h e ∙ written_full o h (get_or r o 0) v (omega arith) (omega arith) ∙ ap (λ (y : ℕ). y % 256) (sym (upd_at e)))
          (λ d. beside r o k _ d ∙ s.writable k a b ∙ ap (λ (y : ℕ). y % 256) (sym (upd_other x.values o v k (λ e. absurd (d (sym e))))));
    }
      where
        upd_at : {k : ℕ} → k ≡ o → upd x.values o v k ≡ v
        upd_at e = ap (upd x.values o v) e ∙ upd_same x.values o v

  cleared_stands : Stands (cleared_by v x) (entered 2 v r)
  cleared_stands = record {
    kept = entered_kept 2 v r (omega arith) s.kept;
    shows = entered_shows 2 (omega arith);
    cause = there r 2 2 _ s.kept.sixteen (omega arith) refl ∙ cause_masked (get_or r 2 0) v ∙ ap (λ (c : ℕ). bit_and c (255 - bit_and v 7)) s.cause
        ∙ clears v x.accepted x.refused x.marked;
    writable = λ k a b. beside r 2 k _ (λ e. absurd (omega arith)) ∙ s.writable k a b;
  }

  -- of what is written to the command register nothing is kept
  kept_stands : Stands x (entered 0 v r)
  kept_stands = record {
    kept = entered_kept 0 v r (omega arith) s.kept;
    shows = entered_shows 0 (omega arith);
    cause = beside r 0 2 _ (λ e. absurd (omega arith)) ∙ s.cause;
    writable = λ k a b. beside r 0 k _ (λ e. absurd (omega arith)) ∙ s.writable k a b;
  }

write_stands : (o v : ℕ) (x : Since) (h : Held) → Stands x h.registers → Stands (since_after (panel_write o v) h x) (event_on (panel_write o v) h).registers
unfolding panel_write_on call_run
write_stands o v x h s =
    let r : List ℕ = h.registers in
    let n : no_register o r ≡ ltb 15 o = offset_told o r s.kept.sixteen in
    test? (ltb 15 o) (λ e. rw (n, e) s)
    (λ e. test? (eqb o 0)
    (λ z. rw (n, e, z) (command_stands (command_in v r) x (entered o v r) h.image (subst (λ (i : ℕ). Stands x (entered i v r)) (sym (eqb-true o 0 z)) (kept_stands v x r s))))
    (λ z. test? (eqb o 2)
    (λ c. rw (n, e, z, c) (subst (λ (i : ℕ). Stands (cleared_by v x) (entered i v r)) (sym (eqb-true o 2 c)) (cleared_stands v x r s)))
    (λ c. rw (n, e, z, c) (entered_stands v x r s o (omega (arith, ltb-false 15 o e)) (eqb-false o 2 c)))))

values_stand : Stands just_reset reset_values
unfolding reset_values shown
values_stand = record {
  kept = record {
    sixteen = refl;
    bytes = λ k b. subst (λ y. y < 256) (sym (reset_zero k b)) (omega arith);
    command = refl;
    cause = omega arith;
    zeros = λ k g b. reset_zero k b;
  };
  shows = record { number = refl; first = refl; second = refl; third = refl };
  cause = refl;
  writable = λ k a b. reset_zero k (omega arith);
}

reset_stands : (r : List ℕ) → length r ≡ 16 → Stands just_reset (panel_reset_on r).registers
unfolding panel_reset_on no_register
reset_stands r l = rw (eq-eqb (length r) 16 l) values_stand

read_same : (o : ℕ) (r : List ℕ) → (panel_read_on o r).registers ≡ r
unfolding panel_read_on
read_same o r = test? (no_register o r) (λ e. rw e refl) (λ e. rw e refl)

line_same : (r : List ℕ) → (panel_line_on r).registers ≡ r
unfolding panel_line_on
line_same r = test? (no_register 0 r) (λ e. rw e refl) (λ e. rw e refl)

event_stands : (e : Event) (x : Since) (h : Held) → Stands x h.registers → Stands (since_after e h x) (event_on e h).registers
event_stands (listed c) x h s = s
event_stands check_blocks x h s = s
event_stands check x h s = s
event_stands panel_reset x h s = reset_stands h.registers s.kept.sixteen
event_stands (panel_read o) x h s = subst (Stands x) (sym (read_same o h.registers)) s
event_stands (panel_write o v) x h s = write_stands o v x h s
event_stands panel_line x h s = subst (Stands x) (sym (line_same h.registers)) s
event_stands (set_term t y m d k) x h s = s
event_stands (current t day) x h s = s
event_stands (convert old second) x h s = s
event_stands (compact spare free) x h s = s

events_stand : (es : List Event) (x : Since) (h : Held) → Stands x h.registers → Stands (since_of es h x) (events_on es h).registers
unfolding events_on since_of
events_stand [] x h s = s
events_stand (e ∷ es) x h s = events_stand es (since_after e h x) (event_on e h) (event_stands e x h s)

means : (x : Since) (r : List ℕ) → Stands x r → FromReset x r
means x r s = record {
  sixteen = s.kept.sixteen;
  bytes = s.kept.bytes;
  command = s.kept.command;
  number = s.shows.number;
  cause = s.cause;
  cause_low = s.kept.cause;
  writable = s.writable;
  first = s.shows.first;
  second = s.shows.second;
  third = s.shows.third;
  zeros = s.kept.zeros;
}

-- THEOREM
pub from_reset : FromResetClaim
unfolding events_on since_of
from_reset h l es = means _ _ (events_stand es just_reset (event_on panel_reset h) (reset_stands h.registers l))
