-- Write, truncate and delete on bytes: what the work on the files of one number leaves. Assumes nothing.
use mathlib.Core.Bool.{not, true}
use mathlib.Core.List.{List, ◌∷◌, []}
use mathlib.Core.Path.{ap, refl, sym, ◌∙◌, ◌≡◌}
use Prim.Native.Nat.{◌*◌, ◌+◌, ◌<◌, ℕ, ◌≤◌}
use native.Mathlib.Omega.{arith}
use lib.ListN.{length}
use Rattle.base.specs.Count.{count}
use Rattle.base.specs.Update.{upd, upd_self, upd_upd}
use Rattle.calls.proofs.CallCases.{call_accepted, number_in, on_store}
use Rattle.pages.proofs.Whole.{pages_packed}
use Rattle.calls.proofs.ChangedRecords.{done_as, finished}
use Rattle.calls.specs.Outcomes.{answer_meant, outcome}
use Rattle.changing.specs.Whole.{Changed, counts_of, start_counts}
use Rattle.copying.specs.Work.{Rest, rest, work}
use Rattle.packing.specs.Words.{Bytes}
use Rattle.rules.proofs.Whole.Accepted.{passed_delete, passed_truncate, passed_write}
use Rattle.rules.proofs.Steps.WriterSteps.{bytes}
use Rattle.rules.specs.Calls.{accepted, begin, finish, tables_of, view_of, worked}
use Rattle.rules.specs.Numbers.{Answer, Call, delete, refusal, truncate, write}
use Rattle.rules.specs.Rules.{Work, delete_file, own_need, touched, truncate_file, truncate_need, write_file}
use Rattle.rules.specs.State.{Tables, absent_file, tree_of}
use Rattle.rules.specs.Storage.{free_blocks, real}
use Rattle.tables.proofs.FormedStore.{FormedStore, formed_store}
use Rattle.tables.proofs.PackUnpack.{pack_unpack}
use Rattle.tables.specs.Calls.{accepted_on, call_on, looked_at, pages_of, repacked, store_of}
use Rattle.tables.specs.Packed.{pack, unpack, well_formed}
use Rattle.calls.specs.declared.answer.Answer as declared
use Rattle.changing.specs.declared.Totals.{Totals}

-- the files of the other numbers stay
rejoined : (tb tb' : Tables) (f : ℕ) → rest tb' f ≡ rest tb f → upd tb.files f (tb'.files f) ≡ tb'.files
rejoined tb tb' f e =
    sym (upd_upd tb.files f (λ s. absent_file) (tb'.files f))
    ∙ ap (λ (x : Rest). upd x.others f (tb'.files f)) (sym e)
    ∙ upd_upd tb'.files f (λ s. absent_file) (tb'.files f)
    ∙ upd_self tb'.files f

-- the answer that the counts told mean
abbrev pub counted : Totals → Answer
counted k = record { number = 0; first = k.taken; second = k.copies; third = k.marks }

module _ (t p t' p' : List ℕ) (f : ℕ) (k : Totals) (op : Work real → Work real) (ch : Changed t p t' p' f start_counts k op) where
  left_tables : tables_of (finish real (store_of t p) f (work (unpack t') (pages_of p') f ch.pending (counts_of k))) ≡ unpack t'
  left_tables = λ i. record {
    blocks = (unpack t').blocks;
    next = (unpack t').next;
    bits = (unpack t').bits;
    sets = (sym ch.same i).sets;
    files = rejoined (unpack t) (unpack t') f ch.same i;
  }

  -- LAW: the outcome of the rule is what the code leaves
  worked_on : FormedStore t p → Bytes t' → length p' ≡ length p → repacked (worked real (store_of t p) f (op (begin real (store_of t p) f))) ≡ looked_at (counted k) t' p' []
  unfolding worked
  worked_on fs bs l =
      let b : (unpack t).blocks ≡ (unpack t').blocks = ap (λ (x : Rest). x.blocks) (sym ch.same) in
      let w = ap pack left_tables ∙ pack_unpack t' ch.packed bs in
      let g = pages_packed (unpack t').blocks p' (l ∙ fs.pages ∙ ap (λ n. n * 512) b) in
      ap (λ (x : Work real). repacked (worked real (store_of t p) f x)) (sym ch.does) ∙ (λ i. looked_at (counted k) (w i) (g i) [])

module _ (r : declared.Answer) (t p t' p' : List ℕ) (f : ℕ) (k : Totals) (formed : well_formed t (length p) ≡ true) (a : answer_meant r ≡ counted k) (bs : Bytes t') (l : length p' ≡ length p) where
  worked_as : (c : Call) (op : Work real → Work real) → on_store c ≡ true → 0 ≡ number_in t p c → Changed t p t' p' f start_counts k op
      → accepted_on c t p ≡ repacked (worked real (store_of t p) f (op (begin real (store_of t p) f))) → outcome r t' p' [] ≡ call_on c t p
  worked_as c op o n ch e =
      ap (λ (x : Answer). looked_at x t' p' []) a ∙ sym (call_accepted t p c o formed n ∙ e ∙ worked_on t p t' p' f k op ch (formed_store t p formed) bs l)

  -- DELETE
  pub deleted_as : (s : ℕ) → 0 ≡ number_in t p (delete s f) → Changed t p t' p' f start_counts k (delete_file real (tree_of (unpack t).sets) s) → outcome r t' p' [] ≡ call_on (delete s f) t p
  unfolding accepted_on accepted
  deleted_as s n ch = worked_as (delete s f) (delete_file real (tree_of (unpack t).sets) s) refl n ch refl

  -- TRUNCATE
  pub truncated_as : (s m : ℕ) → 0 ≡ number_in t p (truncate s f m) → Changed t p t' p' f start_counts k (truncate_file real (tree_of (unpack t).sets) s m) → outcome r t' p' [] ≡ call_on (truncate s f m) t p
  unfolding accepted_on accepted
  truncated_as s m n ch = worked_as (truncate s f m) (truncate_file real (tree_of (unpack t).sets) s m) refl n ch refl

  -- WRITE of one byte or more
  pub written_as : (g s off : ℕ) (bytes : List ℕ) → 0 < length bytes → 0 ≡ number_in t p (write g s f off bytes)
      → Changed t p t' p' f start_counts k (write_file real (tree_of (unpack t).sets) g s off bytes) → outcome r t' p' [] ≡ call_on (write g s f off bytes) t p
  unfolding accepted_on accepted
  written_as g s off [] q n ch = absurd (omega (arith, q))
  written_as g s off (x ∷ xs) q n ch = worked_as (write g s f off (x ∷ xs)) (write_file real (tree_of (unpack t).sets) g s off (x ∷ xs)) refl n ch refl

-- WRITE of no byte: nothing changes
pub nothing_written : (r : declared.Answer) (t p : List ℕ) → well_formed t (length p) ≡ true → answer_meant r ≡ refusal 0 → Bytes t → (g s f off : ℕ) (bytes : List ℕ)
    → length bytes ≡ 0 → 0 ≡ number_in t p (write g s f off bytes) → outcome r t p [] ≡ call_on (write g s f off bytes) t p
unfolding accepted_on accepted
nothing_written r t p formed a bs g s f off [] l n =
    let fs = formed_store t p formed in
    finished r t p t formed a bs (write g s f off []) refl n (done_as t p t (unpack t) (store_of t p) fs refl refl (sym (pack_unpack t fs.packed bs)))
nothing_written r t p formed a bs g s f off (x ∷ xs) l n = absurd (omega (arith, l))

-- WHAT THE WORK ASKS FOR, of a call with number 0
module _ (t p : List ℕ) where
  pub delete_requires : (s f : ℕ) → 0 ≡ number_in t p (delete s f) → (f < 16) × (s < 8) × (((unpack t).sets s).used ≡ true)
  delete_requires s f z = let x = passed_delete (view_of real true true (store_of t p)) s f (sym z) in (x.file, x.set.low, x.set.used)

  pub truncate_requires : (s f m : ℕ) → 0 ≡ number_in t p (truncate s f m)
      → (f < 16) × (s < 8) × (((unpack t).sets s).used ≡ true) × (m ≤ 32768)
      × (truncate_need real (tree_of (unpack t).sets) s m ((unpack t).files f) ≤ count (unpack t).blocks (λ b. not ((unpack t).bits b)))
  unfolding free_blocks
  truncate_requires s f m z = let x = passed_truncate (view_of real true true (store_of t p)) s f m (sym z) in (x.file, x.set.low, x.set.used, x.end_in, x.room)

  pub write_requires : (g s f off : ℕ) (bytes : List ℕ) → 0 ≡ number_in t p (write g s f off bytes)
      → (f < 16) × (s < 8) × (((unpack t).sets s).used ≡ true) × (off + length bytes ≤ 32768)
      × (own_need real s (touched off (length bytes)) ((unpack t).files f) ≤ count (unpack t).blocks (λ b. not ((unpack t).bits b)))
  unfolding free_blocks
  write_requires g s f off bytes z =
      let x = passed_write (view_of real true true (store_of t p)) g s f off bytes (sym z) in (x.file, x.set.low, x.set.used, x.end_in, x.room)
