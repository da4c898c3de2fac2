-- Creating a file: the entries become holes one by one, then state and size are put. Assumes nothing.
use mathlib.Core.Bool.{cond}
use mathlib.Core.List.{List}
use mathlib.Core.Path.{ap, sym, ◌∙◌, ◌≡◌}
use Prim.Native.Nat.{◌+◌, suc, ℕ, ◌≤◌}
use native.Mathlib.Numerals.{add-one}
use native.Mathlib.Omega.{arith}
use lib.Dec.{ltb}
use borrow.Author.Tests.{le-ltb, lt-ltb, ltb-false, ltb-true}
use Rattle.base.specs.Logic.{test?}
use Rattle.base.specs.Update.{upd, upd_is}
use Rattle.rules.specs.Rules.{holes, put_entry}
use Rattle.rules.specs.State.{Entry, File, State, Tables, hole, own, unmapped}
use Rattle.setchanges.proofs.Turning.{change_none, change_twice, change_file}
use Rattle.setchanges.specs.Changes.{created_in, holes_in}
use Rattle.tables.proofs.Operations.{no_page, turns_as, turns_more, turns_start}
use Rattle.tables.proofs.ReadParts.{map_default}
use Rattle.tables.specs.Packed.{unpack}
use Rattle.tables.specs.Views.{PackedTables, Turns, put_entry_in, put_files, put_head, put_head_in}

-- the first n entries of a file are holes
abbrev holes_of : ℕ → File ℕ → File ℕ
holes_of n x = record { state = x.state; size = x.size; map = λ p. cond (ltb p n) hole (x.map p) }

unfoldable pub holes_to : ℕ → ℕ → ℕ → Tables → Tables
holes_to f s n tb = change_file f s (holes_of n) tb

holes_step : (n : ℕ) (x : File ℕ) → upd (λ p. cond (ltb p n) hole (x.map p)) n hole ≡ (λ p. cond (ltb p (suc n)) hole (x.map p))
holes_step n x = sym (upd_is (λ p. cond (ltb p n) hole (x.map p)) (λ p. cond (ltb p (suc n)) hole (x.map p)) n hole
    (rw (lt-ltb n (suc n) (omega arith)))
    (λ p m. test? (ltb p n)
    (λ e. let l = ltb-true p n e in rw (e, lt-ltb p (suc n) (omega arith)))
    (λ e. let l = ltb-false p n e in rw (e, le-ltb p (suc n) (omega arith)))))

module _ (f s : ℕ) (tb : Tables) where
  none : (p : ℕ) → cond (ltb p 0) hole ((tb.files f s).map p) ≡ (tb.files f s).map p
  none p = rw (le-ltb p 0 (omega arith))

  holes_none : holes_to f s 0 tb ≡ tb
  unfolding holes_to
  holes_none = change_none f s tb (holes_of 0) (λ i. record { state = (tb.files f s).state; size = (tb.files f s).size; map = λ p. none p i })

  holes_more : (n : ℕ) → put_entry_in f s n hole (holes_to f s n tb) ≡ holes_to f s (suc n) tb
  unfolding holes_to put_entry_in put_entry
  holes_more n =
      change_twice f s tb (λ x. record { state = x.state; size = x.size; map = upd x.map n hole }) (holes_of n)
      ∙ ap (λ (g : File ℕ → File ℕ). change_file f s g tb) (λ i x. record { state = x.state; size = x.size; map = holes_step n x i })

  -- all 64, where there is nothing past them
  holes_all : ((p : ℕ) → 64 ≤ p → (tb.files f s).map p ≡ unmapped) → holes_to f s 64 tb ≡ holes_in f s tb
  unfolding holes_to holes_in holes
  holes_all out =
      let e : (p : ℕ) → cond (ltb p 64) hole ((tb.files f s).map p) ≡ cond (ltb p 64) hole unmapped =
      λ p. test? (ltb p 64) (λ q. rw q) (λ q. rw (q, out p (ltb-false p 64 q))) in
      λ i. put_files f (upd (tb.files f) s (record { state = (tb.files f s).state; size = (tb.files f s).size; map = λ p. e p i })) tb

  created : put_head_in f s own 0 (holes_in f s tb) ≡ created_in f s tb
  unfolding holes_in put_head_in put_head created_in
  created = change_twice f s tb (λ x. record { state = own; size = 0; map = x.map }) (λ x. record { state = x.state; size = x.size; map = holes })

-- LAWS of the loop and of the call
module _ {t₀ : List ℕ} (f s : ℕ) where
  pub holes_start : PackedTables t₀ → Turns t₀ t₀ (holes_to f s 0)
  holes_start h = turns_start t₀ (holes_to f s 0) h (holes_none f s (unpack t₀))

  pub holes_turn : {t t' : List ℕ} (p q : ℕ) (e : Entry ℕ) → q ≡ p → e ≡ hole → Turns t₀ t (holes_to f s p) → Turns t t' (put_entry_in f s q e) → Turns t₀ t' (holes_to f s (p + 1))
  holes_turn p q e k h a b =
      turns_more (holes_to f s p) (put_entry_in f s q e) (holes_to f s (p + 1)) a b
      ((λ i. put_entry_in f s (k i) (h i) (holes_to f s p (unpack t₀))) ∙ holes_more f s (unpack t₀) p ∙ ap (λ n. holes_to f s n (unpack t₀)) (sym (add-one p)))

  pub holes_end : {t : List ℕ} (p : ℕ) → p ≡ 64 → Turns t₀ t (holes_to f s p) → Turns t₀ t (holes_in f s)
  holes_end p q a =
      turns_as (holes_to f s p) (holes_in f s) a
      (ap (λ n. holes_to f s n (unpack t₀)) q ∙ holes_all f s (unpack t₀) (λ p l. map_default t₀ f s p (no_page f s p l)))

  pub create_turns : {t t' : List ℕ} (l : State) → l ≡ own → Turns t₀ t (holes_in f s) → Turns t t' (put_head_in f s l 0) → Turns t₀ t' (created_in f s)
  create_turns l q a b =
      turns_more (holes_in f s) (put_head_in f s l 0) (created_in f s) a b
      (ap (λ (x : State). put_head_in f s x 0 (holes_in f s (unpack t₀))) q ∙ created f s (unpack t₀))
