-- What a call that is accepted has passed: the conditions of the table, none of which applies. Assumes nothing.
use mathlib.Core.Bool.{◌&&◌, Bool, false, not, true, true≢false}
use mathlib.Core.List.{List, ◌∷◌, []}
use mathlib.Core.Path.{refl, sym, ◌≡◌}
use Prim.Native.Nat.{◌+◌, ◌<◌, suc, zero, ℕ, ◌≤◌}
use native.Mathlib.Omega.{arith}
use lib.Dec.{ltb}
use lib.ListN.{length}
use borrow.Author.Tests.{eqb-false, le-ltb, leb-false, lt-ltb, ltb-false, ltb-true, not-false}
use Rattle.base.specs.Logic.{and_left, and_right, or_left_false, or_right_false}
use Rattle.rules.proofs.Steps.States.{live_of, live_present, live_unmarked}
use Rattle.rules.specs.Calls.{Store, accepted, result_of, step, view_of, worked}
use Rattle.rules.specs.Numbers.{Call, View, conditions, create, delete, end_over, file_absent, file_marked, format, is_nil, lowest, make, need_over, no_such_file, no_such_set, not_formed, number_of, read, read_only, remove, tell_free, tell_size, truncate, write}
use Rattle.rules.specs.State.{is_absent, live}
use Rattle.rules.specs.Storage.{Memory, real}

-- the first condition does not apply, nor does one of the others
pub pass : (b : Bool) (n : ℕ) (xs : List (Bool × ℕ)) → lowest ((b, suc n) ∷ xs) ≡ 0 → (b ≡ false) × (lowest xs ≡ 0)
unfolding lowest
pass true n xs h = absurd (omega arith)
pass false n xs h = (refl, h)

-- a set that must be used, and is
pub record UsedSet (v : View) (s : ℕ) : Type 0 where
  pub low : s < 8
  pub used : v.tree.used s ≡ true

used_set : (v : View) (s : ℕ) → not (ltb s 8 && v.tree.used s) ≡ false → UsedSet v s
used_set v s h =
    let e = not-false _ h in
    record { low = ltb-true s 8 (and_left (ltb s 8) _ e); used = and_right (ltb s 8) _ e }

below : (n k : ℕ) → not (ltb n k) ≡ false → n < k
below n k h = ltb-true n k (not-false _ h)

module _ (v : View) where
  -- a file that is looked at: present and not marked
  pub record MayLook (s f : ℕ) : Type 0 where
    pub set : UsedSet v s
    pub file : f < 16
    pub alive : live (v.state f s) ≡ true

  -- a file that is written or truncated
  pub record MayWrite (s f end need : ℕ) : Type 0 where
    pub set : UsedSet v s
    pub file : f < 16
    pub writeable : v.tree.writeable s ≡ true
    pub alive : live (v.state f s) ≡ true
    pub end_in : end ≤ 32768
    pub room : need ≤ v.free

  written : (s f end need : ℕ)
      → lowest (not_formed v ∷ no_such_set v s ∷ no_such_file v f ∷ read_only v s ∷ file_absent v s f ∷ file_marked v s f ∷ end_over v end ∷ need_over v need ∷ []) ≡ 0
      → MayWrite s f end need
  written s f end need h =
      let p₁ = pass _ 0 _ h in
      let p₂ = pass _ 1 _ p₁.1 in
      let p₃ = pass _ 2 _ p₂.1 in
      let p₄ = pass _ 3 _ p₃.1 in
      let p₅ = pass _ 4 _ p₄.1 in
      let p₆ = pass _ 5 _ p₅.1 in
      let p₇ = pass _ 6 _ p₆.1 in
      let p₈ = pass _ 7 _ p₇.1 in
      record {
        set = used_set v s p₂.0;
        file = below f 16 p₃.0;
        writeable = not-false _ p₄.0;
        alive = live_of (v.state f s) p₅.0 p₆.0;
        end_in = ltb-false 32768 end p₇.0;
        room = ltb-false v.free need p₈.0;
      }

  pub passed_write : (g s f off : ℕ) (bs : List ℕ) → number_of v (write g s f off bs) ≡ 0 → MayWrite s f (off + length bs) (v.write_need s f off (length bs))
  unfolding number_of conditions
  passed_write g s f off bs h = written s f (off + length bs) (v.write_need s f off (length bs)) h

  pub passed_truncate : (s f n : ℕ) → number_of v (truncate s f n) ≡ 0 → MayWrite s f n (v.truncate_need s f n)
  unfolding number_of conditions
  passed_truncate s f n h = written s f n (v.truncate_need s f n) h

  looked : (s f : ℕ) → lowest (not_formed v ∷ no_such_set v s ∷ no_such_file v f ∷ file_absent v s f ∷ file_marked v s f ∷ []) ≡ 0 → MayLook s f
  looked s f h =
      let p₁ = pass _ 0 _ h in
      let p₂ = pass _ 1 _ p₁.1 in
      let p₃ = pass _ 2 _ p₂.1 in
      let p₄ = pass _ 4 _ p₃.1 in
      let p₅ = pass _ 5 _ p₄.1 in
      record { set = used_set v s p₂.0; file = below f 16 p₃.0; alive = live_of (v.state f s) p₄.0 p₅.0 }

  pub passed_read : (s f off : ℕ) (buffer : List ℕ) → number_of v (read s f off buffer) ≡ 0 → MayLook s f
  unfolding number_of conditions
  passed_read s f off buffer h = looked s f h

  pub passed_size : (s f : ℕ) → number_of v (tell_size s f) ≡ 0 → MayLook s f
  unfolding number_of conditions
  passed_size s f h = looked s f h

  pub record MayCreate (s f : ℕ) : Type 0 where
    pub set : UsedSet v s
    pub file : f < 16
    pub writeable : v.tree.writeable s ≡ true
    pub gone : is_absent (v.state f s) ≡ true

  pub passed_create : (s f : ℕ) → number_of v (create s f) ≡ 0 → MayCreate s f
  unfolding number_of conditions
  passed_create s f h =
      let p₁ = pass _ 0 _ h in
      let p₂ = pass _ 1 _ p₁.1 in
      let p₃ = pass _ 2 _ p₂.1 in
      let p₄ = pass _ 3 _ p₃.1 in
      let p₅ = pass _ 8 _ p₄.1 in
      record { set = used_set v s p₂.0; file = below f 16 p₃.0; writeable = not-false _ p₄.0; gone = not-false _ p₅.0 }

  pub record MayDelete (s f : ℕ) : Type 0 where
    pub set : UsedSet v s
    pub file : f < 16
    pub writeable : v.tree.writeable s ≡ true
    pub present : is_absent (v.state f s) ≡ false

  pub passed_delete : (s f : ℕ) → number_of v (delete s f) ≡ 0 → MayDelete s f
  unfolding number_of conditions
  passed_delete s f h =
      let p₁ = pass _ 0 _ h in
      let p₂ = pass _ 1 _ p₁.1 in
      let p₃ = pass _ 2 _ p₂.1 in
      let p₄ = pass _ 3 _ p₃.1 in
      let p₅ = pass _ 4 _ p₄.1 in
      record { set = used_set v s p₂.0; file = below f 16 p₃.0; writeable = not-false _ p₄.0; present = p₅.0 }

  pub record MayMake (s c : ℕ) : Type 0 where
    pub set : UsedSet v s
    pub new : c < 8
    pub unused : v.tree.used c ≡ false
    pub level_in : v.tree.level s < 5

  pub passed_make : (s c : ℕ) (w : Bool) → number_of v (make s c w) ≡ 0 → MayMake s c
  unfolding number_of conditions
  passed_make s c w h =
      let p₁ = pass _ 0 _ h in
      let p₂ = pass _ 1 _ p₁.1 in
      let p₃ = pass _ 8 _ p₂.1 in
      let p₄ = pass _ 9 _ p₃.1 in
      record {
        set = used_set v s (or_left_false (not (ltb s 8 && v.tree.used s)) (not (ltb c 8)) p₂.0);
        new = below c 8 (or_right_false (not (ltb s 8 && v.tree.used s)) (not (ltb c 8)) p₂.0);
        unused = p₃.0;
        level_in = leb-false 5 (v.tree.level s) p₄.0;
      }

  pub record MayRemove (s : ℕ) : Type 0 where
    pub set : UsedSet v s
    pub childless : v.tree.children s ≡ []
    pub not_root : s ≡ 0 → ⊥

  is_nil_law : (l : List ℕ) → is_nil l ≡ true → l ≡ []
  is_nil_law [] h = refl
  is_nil_law (x ∷ l) h = absurd (true≢false (sym h))

  pub passed_remove : (s : ℕ) → number_of v (remove s) ≡ 0 → MayRemove s
  unfolding number_of conditions
  passed_remove s h =
      let p₁ = pass _ 0 _ h in
      let p₂ = pass _ 1 _ p₁.1 in
      let p₃ = pass _ 10 _ p₂.1 in
      let p₄ = pass _ 11 _ p₃.1 in
      record { set = used_set v s p₂.0; childless = is_nil_law (v.tree.children s) (not-false _ p₃.0); not_root = eqb-false s 0 p₄.0 }

  -- no condition applies: the call is accepted
  pub accepts_write : v.formed ≡ true → (g s f off : ℕ) (bs : List ℕ) → MayWrite s f (off + length bs) (v.write_need s f off (length bs)) → number_of v (write g s f off bs) ≡ 0
  unfolding number_of conditions lowest
  accepts_write formed g s f off bs w =
      rw (
        formed,
        lt-ltb s 8 w.set.low,
        w.set.used,
        lt-ltb f 16 w.file,
        w.writeable,
        live_present (v.state f s) w.alive,
        live_unmarked (v.state f s) w.alive,
        le-ltb 32768 (off + length bs) w.end_in,
        le-ltb v.free (v.write_need s f off (length bs)) w.room,
      )

-- an accepted call gives the number 0
pub accepted_number : (m : Memory) (c : Call) (r : Store real) → (accepted real m c r).answer.number ≡ 0
unfolding accepted worked
accepted_number m format r = refl
accepted_number m (create s f) r = refl
accepted_number m (write g s f off []) r = refl
accepted_number m (write g s f off (x ∷ bs)) r = refl
accepted_number m (read s f off buffer) r = refl
accepted_number m (truncate s f n) r = refl
accepted_number m (delete s f) r = refl
accepted_number m (make s c w) r = refl
accepted_number m (remove s) r = refl
accepted_number m (tell_size s f) r = refl
accepted_number m tell_free r = refl

-- so the number that a call gives is that of the table
pub number_given : (m : Memory) (c : Call) (r : Store real) → (step real m c r).answer.number ≡ number_of (view_of real true true r) c
unfolding step result_of
number_given m c r = go (number_of (view_of real true true r) c)
  where
    go : (n : ℕ) → (result_of real n m c r).answer.number ≡ n
    go zero = accepted_number m c r
    go (suc n) = refl
