-- The calls that change set and file records alone, on bytes: create, make, remove. Assumes nothing.
use mathlib.Core.Bool.{Bool, true}
use mathlib.Core.List.{List, []}
use mathlib.Core.Path.{ap, refl, sym, ◌∙◌, ◌≡◌}
use Prim.Native.Nat.{◌*◌, ◌<◌, ℕ}
use native.Mathlib.Omega.{arith}
use lib.ListN.{length}
use Rattle.calls.proofs.CallCases.{call_accepted, number_in, on_store}
use Rattle.pages.proofs.Whole.{pages_packed}
use Rattle.calls.specs.Outcomes.{answer_meant, outcome}
use Rattle.packing.specs.Words.{Bytes}
use Rattle.rules.proofs.Whole.Accepted.{passed_create, passed_make, passed_remove}
use Rattle.rules.specs.Calls.{Store, accepted, done, view_of}
use Rattle.rules.specs.Numbers.{Answer, Call, create, make, no_counts, refusal, remove}
use Rattle.rules.specs.State.{Tables, absent_file}
use Rattle.rules.specs.Storage.{real}
use Rattle.setchanges.proofs.OnStores.{created_store, made_store, removed_store, store_with}
use Rattle.setchanges.specs.Changes.{BlocksIn, created_in, made_in, removed_in}
use Rattle.tables.proofs.FormedStore.{FormedStore, formed_store}
use Rattle.tables.proofs.Written.{turns_pack}
use Rattle.tables.specs.Calls.{accepted_on, call_on, looked_at, pages_of, repacked, store_of}
use Rattle.tables.specs.Packed.{pack, unpack, well_formed}
use Rattle.tables.specs.Views.{PackedTables, Turns, put_files}
use Rattle.calls.specs.declared.answer.Answer as declared

-- the store of tables tb and the same pages
pub done_as : (t p t' : List ℕ) (tb : Tables) (st : Store real) → FormedStore t p → tb.blocks ≡ (unpack t).blocks → store_with tb (pages_of p) ≡ st → t' ≡ pack tb
    → repacked (done real st) ≡ looked_at no_counts t' p []
done_as t p t' tb st fs b e w =
    ap (λ (x : Store real). repacked (done real x)) (sym e)
    ∙ (λ i. looked_at no_counts (sym w i) (pages_packed tb.blocks p (fs.pages ∙ ap (λ n. n * 512) (sym b)) i) [])

module _ (r : declared.Answer) (t p t' : List ℕ) (formed : well_formed t (length p) ≡ true) (a : answer_meant r ≡ refusal 0) (bs : Bytes t') where
  -- from an accepted call to the outcome
  pub finished : (c : Call) → on_store c ≡ true → 0 ≡ number_in t p c → accepted_on c t p ≡ looked_at no_counts t' p [] → outcome r t' p [] ≡ call_on c t p
  finished c o n e = ap (λ (x : Answer). looked_at x t' p []) a ∙ sym (call_accepted t p c o formed n ∙ e)

  -- CREATE
  pub created_as : (s f : ℕ) → 0 ≡ number_in t p (create s f) → Turns t t' (created_in f s) → outcome r t' p [] ≡ call_on (create s f) t p
  unfolding accepted_on accepted created_in put_files
  created_as s f n w = finished (create s f) refl n
      (done_as t p t' (created_in f s (unpack t)) _ (formed_store t p formed) refl (created_store t p f s) (turns_pack t t' (created_in f s) bs w))

  -- MAKE
  pub made_as : (s c : ℕ) (x : Bool) → 0 ≡ number_in t p (make s c x) → Turns t t' (made_in s c x) → outcome r t' p [] ≡ call_on (make s c x) t p
  unfolding accepted_on accepted made_in
  made_as s c x n w = finished (make s c x) refl n
      (done_as t p t' (made_in s c x (unpack t)) _ (formed_store t p formed) refl (made_store t p s c x) (turns_pack t t' (made_in s c x) bs w))

  -- REMOVE
  pub removed_as : (c : ℕ) → 0 ≡ number_in t p (remove c) → Turns t t' (removed_in c) → outcome r t' p [] ≡ call_on (remove c) t p
  unfolding accepted_on accepted removed_in
  removed_as c n w = finished (remove c) refl n
      (done_as t p t' (removed_in c (unpack t)) _ (formed_store t p formed) refl (removed_store t p c) (turns_pack t t' (removed_in c) bs w))

-- WHAT THE CHANGES ASK FOR, of a call with number 0
module _ (t p : List ℕ) (formed : well_formed t (length p) ≡ true) where
  pub create_requires : (s f : ℕ) → 0 ≡ number_in t p (create s f) → PackedTables t × (f < 16) × (s < 8)
  create_requires s f z =
      let x = passed_create (view_of real true true (store_of t p)) s f (sym z) in ((formed_store t p formed).packed, x.file, x.set.low)

  pub make_requires : (s c : ℕ) (w : Bool) → 0 ≡ number_in t p (make s c w)
      → PackedTables t × (s < 8) × (c < 8) × (((unpack t).sets s).used ≡ true) × (((unpack t).sets s).level < 7) × ((f : ℕ) → f < 16 → (unpack t).files f c ≡ absent_file)
  make_requires s c w z =
      let x = passed_make (view_of real true true (store_of t p)) s c w (sym z) in
      let l = x.level_in in
      let fs = formed_store t p formed in
      (fs.packed, x.set.low, x.new, x.set.used, omega (arith, l), λ f hf. let k = (fs.files_ok f).shape c in k.empty (k.unused x.unused))

  pub remove_requires : (c : ℕ) → 0 ≡ number_in t p (remove c) → PackedTables t × (0 < c) × (c < 8) × ((f : ℕ) → f < 16 → BlocksIn f c (unpack t))
  remove_requires c z =
      let x = passed_remove (view_of real true true (store_of t p)) c (sym z) in
      let fs = formed_store t p formed in
      let n = x.not_root in
      let h = fs.header.most in
      let low : 0 < c = omega (arith, n) in
      (fs.packed, low, x.set.low, λ f hf q b e. let u = (fs.blocks_ok.used f c q b e).below in omega (arith, u, h))
