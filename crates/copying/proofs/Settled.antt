-- Step 2 for one set: as a change of the state, and as a step. Assumes nothing.
use mathlib.Core.Bool.{Bool, false, true, true≢false}
use mathlib.Core.List.{List}
use mathlib.Core.Path.{ap, fun_ext, refl, subst, sym, ◌∙◌, ◌≡◌}
use Prim.Native.Nat.{◌+◌, ℕ, ◌≤◌}
use Rattle.base.specs.Count.{count}
use Rattle.base.specs.Update.{upd, upd_keeps, upd_self}
use Rattle.copying.proofs.Kept.{changed, sound_files}
use Rattle.copying.specs.Changes.{settled}
use Rattle.copying.specs.Work.{Ready, Step}
use Rattle.rules.proofs.Steps.States.{virgin_is}
use Rattle.rules.proofs.Storages.Sim.{settle_ent}
use Rattle.rules.specs.Reading.{size_by_reading}
use Rattle.rules.specs.Rules.{settle, settle_as, settle_file}
use Rattle.rules.specs.State.{File, Files, State, Tables, Tree, absent, is_virgin, live, marked, own, tree_of, virgin}
use Rattle.rules.specs.Storage.{real}
use Rattle.tables.specs.Packed.{unpack}
use Rattle.tables.specs.Views.{PackedTables, Turns, put_files, put_head, put_head_in}
use Rattle.copying.specs.declared.giving.Counts.{Counts}

settle_still : (tree : Tree) (files : Files ℕ) (c : ℕ) → is_virgin (files c).state ≡ false → settle_file tree c files ≡ files
unfolding settle_file settle_as
settle_still tree files c h = go (files c).state h
  where
    go : (l : State) → is_virgin l ≡ false → settle_as l tree files c ≡ files
    go absent h = refl
    go own h = refl
    go virgin h = absurd (true≢false h)
    go marked h = refl

settle_does : (tree : Tree) (files : Files ℕ) (c : ℕ) → is_virgin (files c).state ≡ true → settle_file tree c files ≡ put_head files c own (size_by_reading tree files c)
unfolding settle_file settle_as put_head
settle_does tree files c h = rw (virgin_is (files c).state h)

-- LAW: as many files are live as before
pub settle_live : (tree : Tree) (files : Files ℕ) (c s : ℕ) → live (settle_file tree c files s).state ≡ live (files s).state
unfolding settle_file settle_as
settle_live tree files c s = go (files c).state refl
  where
    go : (l : State) → (files c).state ≡ l → live (settle_as l tree files c s).state ≡ live (files s).state
    go absent e = refl
    go own e = refl
    go virgin e = upd_keeps (λ (x : File ℕ). live x.state) files c (record { state = own; size = size_by_reading tree files c; map = (files c).map }) (sym (ap live e)) s
    go marked e = refl

-- ---- the code's two ways

-- the file is not virgin
pub settled_not : {t : List ℕ} (f c : ℕ) → PackedTables t → is_virgin ((unpack t).files f c).state ≡ false → Turns t t (settled f c)
unfolding settled put_files
settled_not {t} f c pk h = record {
  view = sym (ap (λ (x : ℕ → Files ℕ). record { blocks = (unpack t).blocks; next = (unpack t).next; bits = (unpack t).bits; sets = (unpack t).sets; files = x })
      (ap (upd (unpack t).files f) (settle_still (tree_of (unpack t).sets) ((unpack t).files f) c h) ∙ upd_self (unpack t).files f));
  packed = pk;
}

-- the file becomes own with the size z that it has by reading
pub settled_so : {t t' : List ℕ} (f c z : ℕ) → is_virgin ((unpack t).files f c).state ≡ true → z ≡ size_by_reading (tree_of (unpack t).sets) ((unpack t).files f) c
    → Turns t t' (put_head_in f c own z) → Turns t t' (settled f c)
unfolding settled put_head_in
settled_so {t} f c z h ez u = record {
  view =
      u.view
      ∙ ap (λ (x : Files ℕ). put_files f x (unpack t)) (ap (put_head ((unpack t).files f) c own) ez ∙ sym (settle_does (tree_of (unpack t).sets) ((unpack t).files f) c h));
  packed = u.packed;
}

-- ---- it is a step

-- LAW
pub settled_step : {t p t' : List ℕ} {f : ℕ} {k : Counts} (c : ℕ) → Ready t p f k → Turns t t' (settled f c) → Step t p t' p f k k (settle real (tree_of (unpack t).sets) c)
unfolding settled settle
settled_step {t} {f} {k} c re u =
    let tb = unpack t in
    let so = re.sound in
    let tree = tree_of tb.sets in
    let x = settle_file tree c (tb.files f) in
    changed tb x refl u.view re u.packed refl
    (sound_files tb f x so (λ s q b e. so.named s q b (sym (settle_ent tree c (tb.files f) s q) ∙ e))
    (subst (λ (g : ℕ → Bool). k.marks + count 8 g ≤ 8) (fun_ext (λ s. sym (settle_live tree (tb.files f) c s))) so.alive))
    (settle real tree c) (λ h. refl)

pub settled_sets : {t t' : List ℕ} (f c : ℕ) → Turns t t' (settled f c) → (unpack t').sets ≡ (unpack t).sets
unfolding settled put_files
settled_sets f c u = ap (λ (y : Tables). y.sets) u.view
