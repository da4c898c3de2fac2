-- What the invariant means: the store agrees with plain store and tally, and gives what they give. Assumes nothing.
use mathlib.Core.Bool.{false, true}
use mathlib.Core.List.{◌++◌, List, ◌∷◌, []}
use mathlib.Core.Option.{Option, some}
use mathlib.Core.Path.{◌≡◌, ap, refl, subst, sym, ◌∙◌}
use Prim.Native.Nat.{◌%◌, ◌+◌, ◌-◌, ◌/◌, ◌<◌, suc, zero, ℕ, ◌≤◌}
use native.Mathlib.Omega.{arith}
use lib.ListN.{drop, get_or, length, length-drop, length-take, take}
use lib.Seq.{get_or-drop, get_or-take, take_at}
use Rattle.base.specs.Tabulate.{length_tab, tab, tab_of}
use Rattle.rules.proofs.Whole.Accepted.{passed_read, passed_size}
use Rattle.rules.proofs.Agreement.AgreeCalls.{has_list}
use Rattle.rules.proofs.Storages.CountCalls.{forget, model_of}
use Rattle.rules.proofs.Whole.Holds.{Holds, answer_step}
use Rattle.rules.proofs.Storages.MapBlocks.{map_entry, resolve_map, size_map}
use Rattle.rules.proofs.Formed.Shape.{size_most}
use Rattle.rules.proofs.Steps.States.{live_of, live_present}
use Rattle.rules.proofs.Steps.WriterSteps.{bytes}
use Rattle.rules.specs.Agreement.{AgreesPlain, AgreesTally, both_answer, both_give, buffer_after, buffer_of, front, front_of, kind_of, plain_bytes, plain_first, store_give}
use Rattle.rules.specs.Calls.{Store, accepted, blank_memory, byte_by_reading, read_count, read_into, read_looks, result_of, step, tree_in, view_of, worked}
use Rattle.rules.specs.Numbers.{Answer, Call, Look, bytes_asked, create, delete, format, look_of, make, none_asked, number_of, read, refusal, remove, size_asked, tell_free, tell_size, truncate, write}
use Rattle.rules.specs.Plain.{Plain, bytes_in, is_none}
use Rattle.rules.specs.Reading.{resolve, size_by_reading}
use Rattle.rules.specs.Rules.{page_of}
use Rattle.rules.specs.State.{Entry, hole, is_marked, live, stored, unmapped}
use Rattle.rules.specs.Storage.{Memory, PageData, real}
use Rattle.rules.specs.Tally.{Tally, TallyFiles, both_step}

-- the bytes of an entry, in the store and in its model
page_bytes : (m : Memory) (e : Entry ℕ) → page_of real m e ≡ bytes (map_entry m.pages e)
unfolding page_of
page_bytes m unmapped = refl
page_bytes m hole = refl
page_bytes m (stored b) = refl

pub kind_of_law : (g : ℕ → PageData) (e : Entry ℕ) → map_entry forget (map_entry g e) ≡ kind_of e
kind_of_law g unmapped = refl
kind_of_law g hole = refl
kind_of_law g (stored b) = refl

-- A STORE AND ITS MODEL READ THE SAME
module _ (r : Store real) where
  -- a byte by reading, in the store and in its model
  pub byte_model : (s f i : ℕ) → byte_by_reading r s f i ≡ bytes (resolve (tree_in real r) ((model_of r).files f) s (i / 512)) (i % 512)
  unfolding byte_by_reading
  byte_model s f i =
      ap (λ (y : PageData). y (i % 512))
      (page_bytes r.memory (resolve (tree_in real r) (r.files f) s (i / 512)) ∙ ap bytes (sym (resolve_map r.memory.pages (tree_in real r) (r.files f) s (i / 512))))

  -- a size by reading
  pub size_model : (s f : ℕ) → size_by_reading (tree_in real r) (r.files f) s ≡ size_by_reading (tree_in real r) ((model_of r).files f) s
  size_model s f = sym (size_map r.memory.pages (tree_in real r) (r.files f) s)

module _ (B : ℕ) (r : Store real) (pl : Plain) (ta : Tally) (v : Holds B r pl ta) where
  -- a file that the plain store has, and that is not marked, is own or virgin
  alive : (f s : ℕ) (l : List ℕ) → pl.files f s ≡ some l → is_marked (r.files f s).state ≡ false → live (r.files f s).state ≡ true
  alive f s l e u = live_of (r.files f s).state (sym ((v.plainly.agree f).there s) ∙ ap is_none e) u

  size_plain : (f s : ℕ) (l : List ℕ) → pl.files f s ≡ some l → live (r.files f s).state ≡ true → size_by_reading (tree_in real r) (r.files f) s ≡ length l
  size_plain f s l e al = size_model r s f ∙ (v.plainly.agree f).size s l e al

  -- the whole of a file lies below 32,768
  length_plain : (f s : ℕ) (l : List ℕ) → pl.files f s ≡ some l → live (r.files f s).state ≡ true → length l ≤ 32768
  length_plain f s l e al =
      let z = size_most (tree_in real r) ((model_of r).files f) (v.order.formed.files_ok f).shape s in
      omega (arith, (v.plainly.agree f).size s l e al)

  byte_plain : (f s : ℕ) (l : List ℕ) → pl.files f s ≡ some l → live (r.files f s).state ≡ true → (i : ℕ) → i < length l → byte_by_reading r s f i ≡ get_or l i 0
  byte_plain f s l e al i h = byte_model r s f i ∙ (v.plainly.agree f).byte s l e al i (omega (arith, length_plain f s l e al))

  pub agrees_plain : AgreesPlain r pl
  agrees_plain = record {
    sets = v.plainly.trees;
    present = λ f s. (v.plainly.agree f).there s;
    size = λ f s l e u. size_plain f s l e (alive f s l e u);
    bytes = λ f s l e u. byte_plain f s l e (alive f s l e u);
  }

  pub agrees_tally : AgreesTally r ta
  agrees_tally = record {
    sets = v.tallies.tree;
    state = λ f s. ap (λ (x : TallyFiles). (x s).state) (v.tallies.files f);
    size = λ f s. ap (λ (x : TallyFiles). (x s).size) (v.tallies.files f);
    kind = λ f s p. ap (λ (x : TallyFiles). (x s).map p) (v.tallies.files f) ∙ kind_of_law r.memory.pages ((r.files f s).map p);
    free = v.tallies.free;
  }

  -- A READ: the bytes at the buffer's front are those of the plain store
  front_tab : (n : ℕ) (g : ℕ → ℕ) (rest : List ℕ) → take n (tab n g ++ rest) ≡ tab n g
  front_tab n g rest = take_at (tab n g) rest n (length_tab n g)

  read_bytes : (s f off : ℕ) (buffer : List ℕ) (l : List ℕ) → pl.files f s ≡ some l → live (r.files f s).state ≡ true →
      let n : ℕ = read_count (length buffer) off (size_by_reading (tree_in real r) (r.files f) s) in
      take n (read_into r s f off buffer) ≡ take n (drop off l)
  unfolding read_into
  read_bytes s f off buffer l e al =
      let n : ℕ = read_count (length buffer) off (size_by_reading (tree_in real r) (r.files f) s) in
      let z = size_plain f s l e al in
      let short : n ≤ length l - off = omega arith in
      front_tab n (λ i. byte_by_reading r s f (off + i)) (drop n buffer)
      ∙ tab_of 0 n (λ i. byte_by_reading r s f (off + i)) (take n (drop off l)) (simp (length-take, length-drop) (omega arith))
      (λ i h. get_or-take n (drop off l) i 0 h ∙ get_or-drop off l i 0 ∙ sym (byte_plain f s l e al (off + i) (omega arith)))

  -- what a call gives back is what plain store and tally give
  module _ (least : 1 ≤ B) where
    -- a file that is looked at has a list in the plain store
    listed : (s f : ℕ) → live (r.files f s).state ≡ true → (l : List ℕ) × (pl.files f s ≡ some l)
    listed s f al = has_list (pl.files f s) ((v.plainly.agree f).there s ∙ live_present (r.files f s).state al)

    -- what a call gives back of a look: the first count and the bytes
    pub record LooksSame (c : Call) (n : ℕ) : Type 0 where
      pub count : (result_of real n (blank_memory B) c r).answer ≡ both_answer (result_of real n (blank_memory B) c r).answer.number c pl (result_of real n (blank_memory B) c r).answer
      pub shown : front c (result_of real n (blank_memory B) c r).answer (buffer_after c (result_of real n (blank_memory B) c r).answer.number r)
          ≡ front c (result_of real n (blank_memory B) c r).answer (plain_bytes (look_of c) pl)

    -- the answer of an accepted look with these two counts
    abbrev look_answer : ℕ → ℕ → Answer
    look_answer first second = record { number = 0; first = first; second = second; third = 0 }

    read_same : (s f off : ℕ) (buffer : List ℕ) → live (r.files f s).state ≡ true → LooksSame (read s f off buffer) 0
    unfolding result_of accepted buffer_of front_of plain_bytes both_answer plain_first
    read_same s f off buffer al =
        let q = listed s f al in
        let n : ℕ → ℕ = λ z. read_count (length buffer) off z in
        let z : ℕ = size_by_reading (tree_in real r) (r.files f) s in
        record {
          count = ap (λ x. look_answer (n x) (read_looks (tree_in real r) (r.files f) s off (n z))) (size_plain f s q.0 q.1 al ∙ ap (λ (o : Option (List ℕ)). length (bytes_in o)) (sym q.1));
          shown = read_bytes s f off buffer q.0 q.1 al ∙ ap (λ (o : Option (List ℕ)). take (n z) (drop off (bytes_in o))) (sym q.1);
        }

    size_same : (s f : ℕ) → live (r.files f s).state ≡ true → LooksSame (tell_size s f) 0
    unfolding result_of accepted buffer_of front_of plain_bytes both_answer plain_first
    size_same s f al =
        let q = listed s f al in
        record {
          count = ap (λ x. look_answer x 0) (size_plain f s q.0 q.1 al ∙ ap (λ (o : Option (List ℕ)). length (bytes_in o)) (sym q.1));
          shown = refl;
        }

    looks_refused : (c : Call) (n : ℕ) → LooksSame c (suc n)
    unfolding result_of both_answer
    looks_refused c n = record { count = refl; shown = go (look_of c) }
      where
        go : (k : Look) → front_of k (refusal (suc n)) (buffer_of k (suc n) r) ≡ front_of k (refusal (suc n)) (plain_bytes k pl)
        go (bytes_asked s f off buffer) = unfold front_of in refl
        go (size_asked s f) = unfold front_of in refl
        go none_asked = unfold front_of in refl

    -- a call that does not look
    plain_count : (c : Call) (a : Answer) → look_of c ≡ none_asked → a.number ≡ 0 → a ≡ both_answer a.number c pl a
    unfolding both_answer plain_first
    plain_count c a e z =
        subst (λ n. a ≡ both_answer n c pl a) (sym z)
        (λ i. record { number = a.number; first = ap (λ (k : Look). plain_first k pl a.first) (sym e) i; second = a.second; third = a.third })

    looks_not : (c : Call) → look_of c ≡ none_asked → (accepted real (blank_memory B) c r).answer.number ≡ 0 → LooksSame c 0
    unfolding result_of
    looks_not c e z = record { count = plain_count c (accepted real (blank_memory B) c r).answer e z; shown = go (look_of c) e }
      where
        go : (k : Look) → k ≡ none_asked → front_of k (accepted real (blank_memory B) c r).answer (buffer_of k (accepted real (blank_memory B) c r).answer.number r) ≡ front_of k (accepted real (blank_memory B) c r).answer (plain_bytes k pl)
        go (bytes_asked s f off buffer) e = absurd (let z : ◌≡◌ {A = ℕ} 0 1 = cc in omega arith)
        go (size_asked s f) e = unfold front_of in refl
        go none_asked e = unfold front_of in refl

    looks_accepted : (c : Call) → number_of (view_of real true true r) c ≡ 0 → LooksSame c 0
    looks_accepted format h = looks_not format refl (unfold accepted in refl)
    looks_accepted (create s f) h = looks_not (create s f) refl (unfold accepted in refl)
    looks_accepted (write g s f off []) h = looks_not (write g s f off []) refl (unfold accepted in refl)
    looks_accepted (write g s f off (x ∷ bs)) h = looks_not (write g s f off (x ∷ bs)) refl (unfold accepted worked in refl)
    looks_accepted (read s f off buffer) h = read_same s f off buffer (passed_read (view_of real true true r) s f off buffer h).alive
    looks_accepted (truncate s f n) h = looks_not (truncate s f n) refl (unfold accepted worked in refl)
    looks_accepted (delete s f) h = looks_not (delete s f) refl (unfold accepted worked in refl)
    looks_accepted (make s c w) h = looks_not (make s c w) refl (unfold accepted in refl)
    looks_accepted (remove s) h = looks_not (remove s) refl (unfold accepted in refl)
    looks_accepted (tell_size s f) h = size_same s f (passed_size (view_of real true true r) s f h).alive
    looks_accepted tell_free h = looks_not tell_free refl (unfold accepted in refl)

    looks_same : (c : Call) (n : ℕ) → number_of (view_of real true true r) c ≡ n → LooksSame c n
    looks_same c zero h = looks_accepted c h
    looks_same c (suc n) h = looks_refused c n

    pub given_step : (c : Call) → store_give B c r ≡ both_give B c pl ta
    unfolding step
    given_step c =
        let q = looks_same c (number_of (view_of real true true r) c) refl in
        let e : (step real (blank_memory B) c r).answer ≡ (both_step B c pl ta).answer = answer_step B least r pl ta v c in
        let a : (step real (blank_memory B) c r).answer ≡ both_answer (both_step B c pl ta).answer.number c pl (both_step B c pl ta).answer = q.count ∙ ap (λ (x : Answer). both_answer x.number c pl x) e in
        λ i. record { answer = a i; bytes = (q.shown ∙ ap (λ (x : Answer). front c x (plain_bytes (look_of c) pl)) a) i }
