-- Over any storage: removing a set is erasing its files one by one, then unlinking it. Assumes nothing.
use mathlib.Core.List.{List, Memᴰ, ◌∷◌, []}
use mathlib.Core.Path.{ap, refl, subst, sym, ◌∙◌, ◌≡◌}
use Prim.Native.Nat.{ℕ}
use Rattle.base.specs.Logic.{same?}
use Rattle.base.specs.Update.{upd, upd_keeps, upd_other, upd_same}
use Rattle.rules.proofs.Agreement.Agree.{from_once}
use Rattle.rules.proofs.Steps.Pending.{each_same}
use Rattle.rules.proofs.Steps.StepFour.{each_all, each_inv}
use Rattle.rules.proofs.Steps.WriterSteps.{NoDup}
use Rattle.rules.specs.Calls.{Store, begin, finish, removed, tree_in}
use Rattle.rules.specs.Rules.{each, erase_file, free_map, from}
use Rattle.rules.specs.Sets.{unlink_set}
use Rattle.rules.specs.State.{Files, absent_file}
use Rattle.rules.specs.Storage.{Storage}

module _ (S : Storage) (c : ℕ) where
  -- file f of set c is erased
  abbrev pub erased_in : ℕ → Store S → Store S
  erased_in f st = finish S st f (erase_file S (tree_in S st) c (begin S st f))

  -- set c, whose files are erased, is unlinked
  unfoldable pub unlinked : Store S → Store S
  unlinked st = record { memory = st.memory; sets = unlink_set c st.sets; files = λ f. upd (st.files f) c absent_file }

  abbrev pub all_erased : Store S → Store S
  all_erased st = each erased_in (from 0 16) st

  pub record ErasedOnes (fs : List ℕ) (a b : Store S) : Type 0 where
    pub sets : b.sets ≡ a.sets
    pub other_sets : (f x : ℕ) → (c ≡ x → ⊥) → b.files f x ≡ a.files f x
    pub other_files : (f : ℕ) → (Memᴰ f fs → ⊥) → b.files f ≡ a.files f

  erases : (fs : List ℕ) (st : Store S) → ErasedOnes fs st (each erased_in fs st)
  unfolding erase_file
  erases fs st =
      each_inv erased_in (ErasedOnes fs st) fs
      (λ g v m i. record {
        sets = i.sets;
        other_sets = λ f x n. upd_keeps (λ (y : Files S.Block). y x) v.files g _ (upd_other (v.files g) c absent_file x n) f ∙ i.other_sets f x n;
        other_files = λ f n. upd_other v.files g _ f (λ e. n (subst (λ y. Memᴰ y fs) e m)) ∙ i.other_files f n;
      }) st
      (record { sets = refl; other_sets = λ f x n. refl; other_files = λ f n. refl })

  pub erases_absent : (fs : List ℕ) (st : Store S) (f : ℕ) → Memᴰ f fs → (each erased_in fs st).files f c ≡ absent_file
  unfolding erase_file
  erases_absent fs st =
      each_all erased_in (λ v. Unit {0}) (λ f v. v.files f c ≡ absent_file) fs (λ g v m i. tt)
      (λ g v m i. ap (λ (y : Files S.Block). y c) (upd_same v.files g _) ∙ upd_same (v.files g) c absent_file)
      (λ f g v m i h. same? g f
      (λ e. subst (λ y. upd v.files g (upd (v.files g) c absent_file) y c ≡ absent_file) e (ap (λ (y : Files S.Block). y c) (upd_same v.files g _) ∙ upd_same (v.files g) c absent_file))
      (λ n. ap (λ (y : Files S.Block). y c) (upd_other v.files g _ f n) ∙ h)) st tt

  erases_memory : (fs : List ℕ) → NoDup fs → (st : Store S) → (each erased_in fs st).memory ≡ each (λ f. free_map S (st.files f c).map) fs st.memory
  unfolding each erase_file
  erases_memory [] d st = refl
  erases_memory (g ∷ gs) d st =
      erases_memory gs d.1 (erased_in g st)
      ∙ each_same (λ f. free_map S (upd st.files g (upd (st.files g) c absent_file) f c).map) (λ f. free_map S (st.files f c).map) gs
      (λ f m l. ap (λ (y : Files S.Block). free_map S (y c).map m) (upd_other st.files g _ f (λ e. d.0 (subst (λ y. Memᴰ y gs) (sym e) l)))) _

  pub removed_is : (st : Store S) → removed S c st ≡ unlinked (all_erased st)
  unfolding removed unlinked
  removed_is st =
      let d = erases (from 0 16) st in
      λ i. record {
        memory = sym (erases_memory (from 0 16) (from_once 0 16) st) i;
        sets = unlink_set c (sym d.sets i);
        files = λ f x. same? {P = upd (st.files f) c absent_file x ≡ upd ((all_erased st).files f) c absent_file x} c x
            (λ e. subst (λ y. upd (st.files f) c absent_file y ≡ upd ((all_erased st).files f) c absent_file y) e (upd_same (st.files f) c absent_file ∙ sym (upd_same ((all_erased st).files f) c absent_file)))
            (λ n. upd_other (st.files f) c absent_file x n ∙ sym (upd_other ((all_erased st).files f) c absent_file x n ∙ d.other_sets f x n)) i;
      }
