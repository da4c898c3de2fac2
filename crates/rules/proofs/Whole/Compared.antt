-- WHAT IS COMPARED LEAVES NOTHING OPEN: a store agrees with one plain store at most, but for the bytes of marked files, and with one tally at most. A compared
-- thing that is left out of `AgreesPlain` or `AgreesTally` is refused here.
use mathlib.Core.Bool.{false, true≢false}
use mathlib.Core.List.{List}
use mathlib.Core.Option.{Option, none, some}
use mathlib.Core.Path.{◌≡◌, ◌∙◌, ap, refl, sym}
use Prim.Native.Nat.{ℕ}
use native.Mathlib.Omega.{arith}
use Rattle.base.specs.Tabulate.{tab, tab_of}
use Rattle.rules.specs.Agreement.{AgreesPlain, AgreesTally}
use Rattle.rules.specs.Calls.{Store, byte_by_reading, tree_in}
use Rattle.rules.specs.Plain.{Plain, is_none}
use Rattle.rules.specs.Reading.{size_by_reading}
use Rattle.rules.specs.State.{is_marked}
use Rattle.rules.specs.Storage.{real}
use Rattle.rules.specs.Tally.{Tally}

-- two plain stores with the same sets, the same files present, and the same bytes in those that are not marked in the store
pub record SamePlain (st : Store real) (a b : Plain) : Type 0 where
  pub sets : a.tree ≡ b.tree
  pub present : (f s : ℕ) → is_none (a.files f s) ≡ is_none (b.files f s)
  pub bytes : (f s : ℕ) → is_marked (st.files f s).state ≡ false → a.files f s ≡ b.files f s

pub record SameTally (a b : Tally) : Type 0 where
  pub sets : a.tree ≡ b.tree
  pub state : (f s : ℕ) → (a.files f s).state ≡ (b.files f s).state
  pub size : (f s : ℕ) → (a.files f s).size ≡ (b.files f s).size
  pub kind : (f s p : ℕ) → (a.files f s).map p ≡ (b.files f s).map p
  pub free : a.free ≡ b.free

module _ (st : Store real) (a b : Plain) (u : AgreesPlain st a) (v : AgreesPlain st b) where
  -- the list of a file that is not marked is its bytes by reading
  read_whole : (pl : Plain) → AgreesPlain st pl → (f s : ℕ) (l : List ℕ) → is_marked (st.files f s).state ≡ false → pl.files f s ≡ some l
      → tab (size_by_reading (tree_in real st) (st.files f) s) (byte_by_reading st s f) ≡ l
  read_whole pl w f s l m e =
      let z = w.size f s l e m in
      tab_of 0 _ (byte_by_reading st s f) l (sym z) (λ i h. sym (w.bytes f s l e m i (omega (arith, z))))

  same_file : (f s : ℕ) → is_marked (st.files f s).state ≡ false → (o p : Option (List ℕ)) → a.files f s ≡ o → b.files f s ≡ p → is_none o ≡ is_none p → o ≡ p
  same_file f s m none none d e h = refl
  same_file f s m none (some k) d e h = absurd (true≢false h)
  same_file f s m (some l) none d e h = absurd (true≢false (sym h))
  same_file f s m (some l) (some k) d e h = ap some (sym (read_whole a u f s l m d) ∙ read_whole b v f s k m e)

  pub one_plain : SamePlain st a b
  one_plain = record {
    sets = u.sets ∙ sym v.sets;
    present = λ f s. u.present f s ∙ sym (v.present f s);
    bytes = λ f s m. same_file f s m (a.files f s) (b.files f s) refl refl (u.present f s ∙ sym (v.present f s));
  }

pub one_tally : (st : Store real) (a b : Tally) → AgreesTally st a → AgreesTally st b → SameTally a b
one_tally st a b u v = record {
  sets = u.sets ∙ sym v.sets;
  state = λ f s. u.state f s ∙ sym (v.state f s);
  size = λ f s. u.size f s ∙ sym (v.size f s);
  kind = λ f s p. u.kind f s p ∙ sym (v.kind f s p);
  free = u.free ∙ sym v.free;
}
