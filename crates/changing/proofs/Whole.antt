-- The steps of a call one after another are the call's rule. Assumes nothing.
use mathlib.Core.Bool.{Bool, false, not, true}
use mathlib.Core.List.{List, ◌∷◌, []}
use mathlib.Core.Path.{ap, fun_ext, refl, subst, sym, ◌∙◌, ◌≡◌}
use Prim.Native.Nat.{ℕ}
use native.Mathlib.Omega.{arith}
use lib.ListN.{length}
use Rattle.base.specs.Update.{upd}
use Rattle.changing.specs.Tables.{AnyBlockIn, OnTables}
use Rattle.changing.specs.Whole.{Changed, start_counts, totals_of}
use Rattle.copying.proofs.Begin.{formed_header, formed_named}
use Rattle.copying.proofs.Kept.{changed_does}
use Rattle.copying.proofs.Settled.{settled_sets, settled_step}
use Rattle.copying.specs.Changes.{settled}
use Rattle.copying.specs.Work.{Alone, Ready, Rest, Step, counts_new, give_both, rest, settle_children, work, work_of}
use Rattle.rules.proofs.Storages.Sim.{settle_ent}
use Rattle.rules.specs.Rules.{Work, count_in, delete_as, delete_file, each, erase_file, from, give_all, own_need, settle}
use Rattle.rules.specs.State.{Entry, SetRecord, Tables, Tree, absent_file, is_stored, live, tree_of, unmapped}
use Rattle.rules.specs.Storage.{Memory, PageData, real}
use Rattle.setchanges.proofs.Freeing.{freed_memory}
use Rattle.setchanges.specs.Changes.{erased_in, freed_in}
use Rattle.tables.specs.Calls.{pages_of}
use Rattle.tables.specs.Packed.{unpack, well_formed}
use Rattle.tables.specs.Views.{Turns, memory_of}
use Rattle.changing.specs.declared.Totals.{Totals}
use Rattle.copying.specs.declared.giving.Counts.{Counts}

-- ---- one after another

-- what has been done, with the blocks pending h, then h'
pub record Did (t p : List ℕ) (h : ℕ → Entry ℕ) (t' p' : List ℕ) (h' : ℕ → Entry ℕ) (f : ℕ) (k k' : Counts) (op : Work real → Work real) : Type 0 where
  pub same : rest (unpack t') f ≡ rest (unpack t) f
  pub does : work (unpack t') (pages_of p') f h' k' ≡ op (work (unpack t) (pages_of p) f h k)

-- and then g, which is told by the sets
pub did_then : {t p t₁ p₁ t₂ p₂ : List ℕ} {h h₁ h₂ : ℕ → Entry ℕ} {f : ℕ} {k k₁ k₂ : Counts} {op : Work real → Work real} (g : (ℕ → SetRecord) → Work real → Work real)
    → Did t p h t₁ p₁ h₁ f k k₁ op → Did t₁ p₁ h₁ t₂ p₂ h₂ f k₁ k₂ (g (unpack t₁).sets) → Did t p h t₂ p₂ h₂ f k k₂ (λ w. g (unpack t).sets (op w))
did_then {t} {p} {t₁} {p₁} {t₂} {p₂} {h} {h₁} {h₂} {f} {k} {k₁} {k₂} g a b =
    let ss : (unpack t₁).sets ≡ (unpack t).sets = ap (λ (r : Rest). r.sets) a.same in
    record {
      same = b.same ∙ a.same;
      does = b.does ∙ ap (λ (y : ℕ → SetRecord). g y (work (unpack t₁) (pages_of p₁) f h₁ k₁)) ss ∙ ap (g (unpack t).sets) a.does;
    }

pub did_step : {t p t' p' : List ℕ} {f : ℕ} {k k' : Counts} {op : Work real → Work real} (h : ℕ → Entry ℕ) → Step t p t' p' f k k' op → Did t p h t' p' h f k k' op
did_step h s = record { same = s.step.same; does = s.step.does h }

pub did_tables : {t t' : List ℕ} {f : ℕ} {op : Work real → Work real} (p : List ℕ) (h : ℕ → Entry ℕ) (k : Counts) → OnTables t t' f op → Did t p h t' p h f k k op
did_tables p h k o = record { same = (o.does (pages_of p) k).same; does = (o.does (pages_of p) k).does h }

-- ---- step 2

abbrev pub settle_both : ℕ → (ℕ → SetRecord) → Work real → Work real
settle_both s sets w = settle_children sets s (settle real (tree_of sets) s w)

module _ {t p t₁ t₂ : List ℕ} {f : ℕ} {k : Counts} (s : ℕ) (re : Ready t p f k) (a : Turns t t₁ (settled f s)) (b : Alone t₁ t₂ f (settle_children (unpack t₁).sets s)) where
  -- LAW: the next step can be taken
  pub both_ready : Ready t₂ p f k
  both_ready = (b p k (settled_step s re a).ready).ready

  -- LAW
  pub both_did : (h : ℕ → Entry ℕ) → Did t p h t₂ p h f k k (settle_both s (unpack t).sets)
  both_did h =
      did_then (λ y. settle_children y s) (did_step h (settled_step s re a)) (did_step h (b p k (settled_step s re a).ready))

  settle_map : (tree : Tree) (c : ℕ) (w : Work real) (x q : ℕ) → ((settle real tree c w).files x).map q ≡ (w.files x).map q
  unfolding settle
  settle_map tree c w x q = settle_ent tree c w.files x q

  settle_maps : (tree : Tree) (cs : List ℕ) (w : Work real) (x q : ℕ) → ((each (settle real tree) cs w).files x).map q ≡ (w.files x).map q
  unfolding each
  settle_maps tree [] w x q = refl
  settle_maps tree (c ∷ cs) w x q = settle_maps tree cs (settle real tree c w) x q ∙ settle_map tree c w x q

  -- LAW: settling changes no entry, so the own need stays
  pub both_need : (ps : List ℕ) → own_need real s ps ((unpack t₂).files f) ≡ own_need real s ps ((unpack t).files f)
  unfolding own_need
  both_need ps =
      let h : ℕ → Entry ℕ = λ i. unmapped in
      let w = work (unpack t) (pages_of p) f h k in
      let tree = tree_of (unpack t).sets in
      ap (λ (g : ℕ → Entry ℕ). count_in ps (λ i. not (is_stored (g i))))
      (fun_ext (λ i. ap (λ (v : Work real). (v.files s).map i) (both_did h).does ∙ settle_maps tree (tree.children s) (settle real tree s w) s i ∙ settle_map tree s w s i))

-- ---- the counts at first

-- LAW: a call begins with them, whatever is free
pub begun : {t p t' p' : List ℕ} {f : ℕ} {k : Counts} {r : Totals} {op : Work real → Work real} (left : ℕ) → k ≡ counts_new left → Changed t p t' p' f k r op → Changed t p t' p' f start_counts r op
begun {t} {p} {t'} {p'} {f} {k} {r} {op} left e c =
    let d : Changed t p t' p' f (counts_new left) r op = subst (λ (y : Counts). Changed t p t' p' f y r op) e c in
    record { pending = d.pending; same = d.same; does = d.does; packed = d.packed }

-- LAW: the counts told
pub told : {t p t' p' : List ℕ} {f : ℕ} {k : Counts} {r : Totals} {op : Work real → Work real} (k' : Counts) → r ≡ totals_of k' → Changed t p t' p' f k (totals_of k') op → Changed t p t' p' f k r op
told {t} {p} {t'} {p'} {f} {k} {r} {op} k' e c = subst (λ (y : Totals). Changed t p t' p' f k y op) (sym e) c

-- ---- delete

freed_rest : (f s : ℕ) (tb : Tables) → rest (freed_in f s tb) f ≡ rest tb f
unfolding freed_in
freed_rest f s tb = refl

erased_work : (f s : ℕ) (tb : Tables) (tree : Tree) (pg : ℕ → PageData) (h : ℕ → Entry ℕ) (k : Counts)
    → work_of (memory_of (freed_in f s tb) pg) (upd ((freed_in f s tb).files f) s absent_file) h k ≡ erase_file real tree s (work tb pg f h k)
unfolding freed_in erase_file
erased_work f s tb tree pg h k = ap (λ (m : Memory). work_of m (upd (tb.files f) s absent_file) h k) (sym (freed_memory f s tb pg))

-- LAW: the blocks freed and the record erased
pub erased : {t t₁ t₂ : List ℕ} (f s : ℕ) → Turns t t₁ (freed_in f s) → Turns t₁ t₂ (erased_in f s) → (tree : Tree) → OnTables t t₂ f (erase_file real tree s)
unfolding erased_in
erased {t} {t₁} f s u v tree = record {
  does = λ pg k.
      changed_does (unpack t₁) (upd ((unpack t₁).files f) s absent_file) (ap (λ (y : Tables). rest y f) u.view ∙ freed_rest f s (unpack t)) v.view (erase_file real tree s)
      (λ h. ap (λ (y : Tables). work_of (memory_of y pg) (upd (y.files f) s absent_file) h k) u.view ∙ erased_work f s (unpack t) tree pg h k);
  packed = v.packed;
}

-- LAW: the maps name blocks of the bitmap
pub ready_in : {t p : List ℕ} {f : ℕ} {k : Counts} → Ready t p f k → AnyBlockIn f (unpack t)
ready_in re s q b e = let h = re.sound.named s q b e in omega (arith, h, re.sound.header.most)

module _ {t p t₁ t₂ p₂ t₃ : List ℕ} {f : ℕ} {k k₁ : Counts} (s : ℕ) (re : Ready t p f k) (a : Alone t t₁ f (settle_children (unpack t).sets s))
    (d : Step t₁ p t₂ p₂ f k k₁ (give_both (unpack t₁).sets s (from 0 0) (from 0 64))) (e : OnTables t₂ t₃ f (erase_file real (tree_of (unpack t₂).sets) s)) where
  -- LAW: a live file deleted
  pub deleted : Changed t p t₃ p₂ f k (totals_of k₁) (delete_as real (tree_of (unpack t).sets) true s)
  unfolding delete_as give_all each from
  deleted =
      let h : ℕ → Entry ℕ = λ q. unmapped in
      let x = did_then (λ S. erase_file real (tree_of S) s)
      (did_then (λ S. give_both S s (from 0 0) (from 0 64)) (did_step h (a p k re)) (did_step h d)) (did_tables p₂ h k₁ e) in
      record { pending = h; same = x.same; does = x.does; packed = e.packed }

-- LAW: the whole delete by its rule
pub deleted_so : {t p t' p' : List ℕ} {f : ℕ} {r : Totals} (s : ℕ) → live ((unpack t).files f s).state ≡ true → Changed t p t' p' f start_counts r (delete_as real (tree_of (unpack t).sets) true s)
    → Changed t p t' p' f start_counts r (delete_file real (tree_of (unpack t).sets) s)
unfolding delete_file
deleted_so {t} {p} {t'} {p'} {f} s l c = record {
  pending = c.pending;
  same = c.same;
  does = c.does ∙ ap (λ (b : Bool). delete_as real (tree_of (unpack t).sets) b s (work (unpack t) (pages_of p) f (λ q. unmapped) start_counts)) (sym l);
  packed = c.packed;
}

pub deleted_not : {t t' : List ℕ} {f : ℕ} (p : List ℕ) (s : ℕ) → live ((unpack t).files f s).state ≡ false → OnTables t t' f (erase_file real (tree_of (unpack t).sets) s)
    → Changed t p t' p f start_counts (totals_of start_counts) (delete_file real (tree_of (unpack t).sets) s)
unfolding delete_file delete_as
deleted_not {t} {t'} {f} p s l e =
    let h : ℕ → Entry ℕ = λ q. unmapped in
    let x = did_tables p h start_counts e in
    record {
      pending = h;
      same = x.same;
      does = x.does ∙ ap (λ (b : Bool). delete_as real (tree_of (unpack t).sets) b s (work (unpack t) (pages_of p) f h start_counts)) (sym l);
      packed = e.packed;
    }

-- ---- what the calls ask between steps

-- a set in use stays so, by what no step changes
pub same_used : (t t' : List ℕ) (f s : ℕ) → rest (unpack t') f ≡ rest (unpack t) f → ((unpack t).sets s).used ≡ true → ((unpack t').sets s).used ≡ true
same_used t t' f s e u = ap (λ (r : Rest). (r.sets s).used) e ∙ u

pub settled_used : {t t' : List ℕ} (f s : ℕ) → Turns t t' (settled f s) → ((unpack t).sets s).used ≡ true → ((unpack t').sets s).used ≡ true
settled_used f s a u = ap (λ (y : ℕ → SetRecord). (y s).used) (settled_sets f s a) ∙ u

pub both_used : {t p t₁ t₂ : List ℕ} {f : ℕ} {k : Counts} (s : ℕ) → Ready t p f k → Turns t t₁ (settled f s) → Alone t₁ t₂ f (settle_children (unpack t₁).sets s) → ((unpack t).sets s).used ≡ true
    → ((unpack t₂).sets s).used ≡ true
both_used {t} {p} {t₁} {t₂} {f} s re a b u = same_used t t₂ f s (both_did s re a b (λ q. unmapped)).same u

pub begin_in : (t p : List ℕ) → well_formed t (length p) ≡ true → (f : ℕ) → AnyBlockIn f (unpack t)
begin_in t p h f s q b e = let x = formed_named t p h f s q b e in omega (arith, x, (formed_header t p h).most)
