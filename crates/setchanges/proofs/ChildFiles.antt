-- Making a set, the files: those of the new set become those of a child, one after another. Assumes nothing.
use mathlib.Core.Bool.{Bool, cond}
use mathlib.Core.List.{List}
use mathlib.Core.Path.{ap, fun_ext, refl, sym, ◌∙◌, ◌≡◌}
use Prim.Native.Nat.{◌+◌, ◌<◌, suc, ℕ, ◌≤◌}
use native.Mathlib.Numerals.{add-one}
use native.Mathlib.Omega.{arith}
use lib.Dec.{ltb}
use borrow.Author.Tests.{le-ltb, lt-ltb, ltb-false, ltb-true}
use Rattle.base.specs.Logic.{test?}
use Rattle.base.specs.Update.{upd, upd_is, upd_self}
use Rattle.rules.specs.Sets.{child_file, child_state}
use Rattle.rules.specs.State.{File, Files, State, Tables, absent_file, file_count}
use Rattle.setchanges.specs.Changes.{appended_in, child_files_in, made_in}
use Rattle.tables.proofs.FormedStore.{absent_default}
use Rattle.tables.proofs.Operations.{files_same, turns_as, turns_more, turns_start}
use Rattle.tables.specs.Packed.{unpack}
use Rattle.tables.specs.Views.{PackedTables, Turns, put_files, put_head, put_head_in}

-- the first n files of set c are those of a child of set s
unfoldable pub child_files_to : ℕ → ℕ → ℕ → Tables → Tables
child_files_to s c n tb = record {
  blocks = tb.blocks;
  next = tb.next;
  bits = tb.bits;
  sets = tb.sets;
  files = λ f. cond (ltb f n) (upd (tb.files f) c (child_file (tb.files f s))) (tb.files f);
}

module _ (s c : ℕ) (tb : Tables) where
  abbrev whole : ℕ → Files ℕ
  whole f = upd (tb.files f) c (child_file (tb.files f s))

  abbrev partly : ℕ → ℕ → Files ℕ
  partly n f = cond (ltb f n) (whole f) (tb.files f)

  child_none : child_files_to s c 0 tb ≡ tb
  unfolding child_files_to
  child_none = files_same tb (partly 0) tb.files (fun_ext (λ f. rw (le-ltb f 0 (omega arith))))

  -- a file that is still to be done
  child_later : (n f : ℕ) → n ≤ f → (child_files_to s c n tb).files f ≡ tb.files f
  unfolding child_files_to
  child_later n f h = rw (le-ltb f n h)

  child_more : (n : ℕ) → tb.files n c ≡ absent_file → put_head_in n c (child_state (tb.files n s).state) 0 (child_files_to s c n tb) ≡ child_files_to s c (suc n) tb
  unfolding child_files_to put_head_in put_head put_files
  child_more n h =
      let here : partly n n ≡ tb.files n = rw (le-ltb n n (omega arith)) in
      let put : Files ℕ → Files ℕ = λ x. upd x c (record { state = child_state (tb.files n s).state; size = 0; map = (x c).map }) in
      let v : put (partly n n) ≡ whole n =
      ap put here ∙ ap (λ (x : File ℕ). upd (tb.files n) c (record { state = child_state (tb.files n s).state; size = 0; map = x.map })) h in
      files_same tb (upd (partly n) n (put (partly n n))) (partly (suc n))
      (sym (upd_is (partly n) (partly (suc n)) n (put (partly n n))
      (rw (lt-ltb n (suc n) (omega arith)) (sym v))
      (λ f m. test? (ltb f n)
      (λ e. let l = ltb-true f n e in rw (e, lt-ltb f (suc n) (omega arith)))
      (λ e. let l = ltb-false f n e in rw (e, le-ltb f (suc n) (omega arith))))))

  child_all : ((f : ℕ) → file_count ≤ f → (x : ℕ) → tb.files f x ≡ absent_file) → child_files_to s c file_count tb ≡ child_files_in s c tb
  unfolding child_files_to child_files_in
  child_all out =
      files_same tb (partly file_count) whole
      (fun_ext (λ f. test? (ltb f file_count)
      (λ e. rw e)
      (λ e. let l = ltb-false f file_count e in
      rw e (sym (ap (λ (x : File ℕ). upd (tb.files f) c (child_file x)) (out f l s) ∙ ap (upd (tb.files f) c) (sym (out f l c)) ∙ upd_self (tb.files f) c)))))

-- files past the last number
pub past_last : (t : List ℕ) (f : ℕ) → file_count ≤ f → (x : ℕ) → (unpack t).files f x ≡ absent_file
past_last t f l x = absent_default t f x (rw (le-ltb f file_count l))

-- LAWS of the loop
module _ {t₀ : List ℕ} (s c : ℕ) where
  pub child_start : PackedTables t₀ → Turns t₀ t₀ (child_files_to s c 0)
  child_start h = turns_start t₀ (child_files_to s c 0) h (child_none s c (unpack t₀))

  pub child_turn : {t t' : List ℕ} (f : ℕ) (l m : State) → (unpack t₀).files f c ≡ absent_file → Turns t₀ t (child_files_to s c f)
      → l ≡ ((unpack t).files f s).state → m ≡ child_state l → Turns t t' (put_head_in f c m 0) → Turns t₀ t' (child_files_to s c (f + 1))
  child_turn f l m h a q r b =
      let same : ((unpack t₀).files f s).state ≡ l = sym (q ∙ ap (λ (x : Tables). (x.files f s).state) a.view ∙ ap (λ (x : Files ℕ). (x s).state) (child_later s c (unpack t₀) f f (omega arith))) in
      turns_more (child_files_to s c f) (put_head_in f c m 0) (child_files_to s c (f + 1)) a b
      (ap (λ (x : State). put_head_in f c x 0 (child_files_to s c f (unpack t₀))) (r ∙ ap child_state (sym same))
      ∙ child_more s c (unpack t₀) f h ∙ ap (λ n. child_files_to s c n (unpack t₀)) (sym (add-one f)))

  pub child_end : {t : List ℕ} (f : ℕ) → f ≡ 16 → Turns t₀ t (child_files_to s c f) → Turns t₀ t (child_files_in s c)
  child_end f q a =
      turns_as (child_files_to s c f) (child_files_in s c) a
      (ap (λ n. child_files_to s c n (unpack t₀)) q ∙ child_all s c (unpack t₀) (past_last t₀))

-- LAWS of the call
pub appended_files : {t t₁ : List ℕ} (s c : ℕ) (w : Bool) → Turns t t₁ (appended_in s c w) → ((f : ℕ) → f < file_count → (unpack t).files f c ≡ absent_file)
    → (f : ℕ) → f < file_count → (unpack t₁).files f c ≡ absent_file
unfolding appended_in
appended_files s c w a h f l = ap (λ (x : Tables). x.files f c) a.view ∙ h f l

pub make_turns : {t t₁ t₂ : List ℕ} (s c : ℕ) (w : Bool) → Turns t t₁ (appended_in s c w) → Turns t₁ t₂ (child_files_in s c) → Turns t t₂ (made_in s c w)
unfolding appended_in child_files_in made_in
make_turns s c w a b = turns_more (appended_in s c w) (child_files_in s c) (made_in s c w) a b refl
