-- Lines as texts written one after the other. Assumes nothing.
use mathlib.Core.Bool.{Bool, cond, false, true}
use mathlib.Core.List.{◌++◌, List, append_assoc, append-nil, ◌∷◌, []}
use mathlib.Core.Logic.{◌⊎◌, ⊎_elim}
use mathlib.Core.Path.{ap, refl, sym, ◌≡◌}
use Prim.Native.Nat.{◌+◌, ◌<◌, ℕ}
use native.Mathlib.Omega.{arith}
use native.Mathlib.Numerals.{add-one}
use Rattle.std.specs.Int.{from_bool}
use Rattle.base.specs.Logic.{digit}
use Rattle.listing.specs.Listing.{begins, ext_line, extents, file_text, file_text_as, file_texts, live_text}
use Rattle.listing.specs.Text.{blank, newline, words}
use Rattle.rules.specs.State.{Entry, State, Tables, own, virgin}
use Rattle.tables.specs.Meaning.{state_meant}
use Rattle.tables.specs.declared.files.State.{State as Kept}
use Rattle.tables.specs.declared.files.State.TheVariants.{Absent, Marked, Own, Virgin}

-- a Boolean as a number
pub one_or_zero : (b : Bool) → from_bool b ≡ digit b
one_or_zero true = refl
one_or_zero false = refl

pub below_two : (b : Bool) → from_bool b < 2
below_two true = omega arith
below_two false = omega arith

pub one_word : (x : List ℕ) → (blank ∷ x) ++ (newline ∷ []) ≡ words (x ∷ []) ++ (newline ∷ [])
one_word x = simp append-nil

pub two_words : (x y : List ℕ) → (blank ∷ x) ++ (blank ∷ y) ≡ words (x ∷ y ∷ [])
two_words x y = simp append-nil

pub two_end : (x y : List ℕ) → (blank ∷ x) ++ ((blank ∷ y) ++ (newline ∷ [])) ≡ words (x ∷ y ∷ []) ++ (newline ∷ [])
two_end x y = simp (append_assoc, append-nil)

pub four_end : (a b c d : List ℕ) → words (a ∷ b ∷ []) ++ (words (c ∷ d ∷ []) ++ (newline ∷ [])) ≡ words (a ∷ b ∷ c ∷ d ∷ []) ++ (newline ∷ [])
four_end a b c d = simp (append_assoc, append-nil)

pub six_end : (a b c d e f : List ℕ) →
    words (a ∷ b ∷ []) ++ (words (c ∷ d ∷ e ∷ f ∷ []) ++ (newline ∷ [])) ≡ words (a ∷ b ∷ c ∷ d ∷ e ∷ f ∷ []) ++ (newline ∷ [])
six_end a b c d e f = simp (append_assoc, append-nil)

module _ (root : Bool) (map : ℕ → Entry ℕ) where
  -- a page at which no extent begins, and one at which one does
  pub page_none : (p : ℕ) → begins map p ≡ false → [] ≡ cond (begins map p) (ext_line root p (map p)) []
  page_none p h = rw h

  pub page_some : (p : ℕ) → begins map p ≡ true → ext_line root p (map p) ≡ cond (begins map p) (ext_line root p (map p)) []
  page_some p h = rw h

  -- no page, one page more
  pub extents_none : [] ≡ extents root map 0
  unfolding extents
  extents_none = refl

  pub extents_more : (p : ℕ) → extents root map p ++ cond (begins map p) (ext_line root p (map p)) [] ≡ extents root map (p + 1)
  unfolding extents
  extents_more p = rw (add-one p)

module _ (tb : Tables) (s : ℕ) where
  -- no file, one file more
  pub files_none : [] ≡ file_texts tb s 0
  unfolding file_texts
  files_none = refl

  pub files_more : (n : ℕ) → file_texts tb s n ++ file_text tb n s ≡ file_texts tb s (n + 1)
  unfolding file_texts
  files_more n = rw (add-one n)

-- the text of a file by its state
pub file_as : (tb : Tables) (f s : ℕ) (state : State) → (tb.files f s).state ≡ state → file_text_as tb state f s ≡ file_text tb f s
unfolding file_text
file_as tb f s state h = ap (λ (x : State). file_text_as tb x f s) (sym h)

pub live_file : (tb : Tables) (f s : ℕ) (l : Kept) → (l ≡ Own) ⊎ (l ≡ Virgin) → state_meant l ≡ (tb.files f s).state → live_text tb (state_meant l) f s ≡ file_text tb f s
unfolding state_meant
live_file tb f s Absent o h = ⊎_elim (λ e. cc) (λ e. cc) o
live_file tb f s Own o h = file_as tb f s own (sym h)
live_file tb f s Virgin o h = file_as tb f s virgin (sym h)
live_file tb f s Marked o h = ⊎_elim (λ e. cc) (λ e. cc) o
