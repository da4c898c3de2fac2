-- The lowest number of a list of conditions, a condition or a part of the list at a time; the rows of the table by their parts. Assumes nothing.
use mathlib.Core.Bool.{◌&&◌, Bool, false, not, true, ◌||◌}
use mathlib.Core.List.{◌++◌, List, ◌∷◌, []}
use mathlib.Core.Path.{refl, sym, ◌∙◌, ◌≡◌}
use Prim.Native.Nat.{◌+◌, ◌<◌, suc, ℕ, ◌≤◌}
use native.Mathlib.Omega.{arith}
use lib.Dec.{eqb, leb, ltb}
use lib.ListN.{length}
use borrow.Author.Tests.{le-ltb, leb-false, leb-true, lt-ltb, ltb-true, not-false}
use Rattle.base.specs.Count.{count}
use Rattle.base.specs.Logic.{and_left, and_right, test?}
use Rattle.rules.specs.Calls.{Store, view_of}
use Rattle.rules.specs.Numbers.{View, conditions, create, delete, file_absent, is_nil, lowest, make, need_over, no_such_file, no_such_set, number_of, read, read_only, remove, tell_size, truncate, write}
use Rattle.rules.specs.State.{SetRecord, chain, children_of, is_absent}
use Rattle.rules.specs.Storage.{free_blocks, real}
use Rattle.rules.specs.Terms.{count_fits, date_exists}
use Rattle.tables.specs.Terms.{current_conditions, set_term_conditions}
use Rattle.numbers.specs.Shared.{end_or_need_over, no_such_place, not_changeable, not_readable, read_only_place}

-- ---- one condition

-- the first condition applies
pub here : (b : Bool) (n : ℕ) (xs : List (Bool × ℕ)) → b ≡ true → n ≡ lowest ((b, n) ∷ xs)
unfolding lowest
here b n xs h = rw h

-- the first does not apply
pub past : (b : Bool) (n m : ℕ) (xs : List (Bool × ℕ)) → b ≡ false → m ≡ lowest xs → m ≡ lowest ((b, n) ∷ xs)
unfolding lowest
past b n m xs h e = rw h e

-- no condition is left
pub none_left : 0 ≡ lowest []
unfolding lowest
none_left = refl

-- none applies: not the first, nor one of the others
none_applies : (b : Bool) (k n : ℕ) (xs : List (Bool × ℕ)) → n ≡ lowest ((b, suc k) ∷ xs) → n ≡ 0 → (b ≡ false) × (n ≡ lowest xs)
unfolding lowest
none_applies true k n xs e z = absurd (omega arith)
none_applies false k n xs e z = (refl, e)

-- ---- a part of a row

-- a condition of the first part applies
in_part : (xs ys : List (Bool × ℕ)) (n : ℕ) → n ≡ lowest xs → (n ≡ 0 → ⊥) → n ≡ lowest (xs ++ ys)
unfolding lowest
in_part [] ys n e h = absurd (h e)
in_part ((true, k) ∷ xs) ys n e h = e
in_part ((false, k) ∷ xs) ys n e h = in_part xs ys n e h

-- every number of a list is above 0
unfoldable numbered : List (Bool × ℕ) → Bool
numbered [] = true
numbered ((b, k) ∷ xs) = ltb 0 k && numbered xs

-- no condition of the first part applies
after_part : (xs ys : List (Bool × ℕ)) (n m : ℕ) → numbered xs ≡ true → n ≡ lowest xs → n ≡ 0 → m ≡ lowest ys → m ≡ lowest (xs ++ ys)
unfolding lowest numbered
after_part [] ys n m k e z h = h
after_part ((true, j) ∷ xs) ys n m k e z h = let l : 0 < j = ltb-true 0 j (and_left (ltb 0 j) (numbered xs) k) in absurd (omega arith)
after_part ((false, j) ∷ xs) ys n m k e z h = after_part xs ys n m (and_right (ltb 0 j) (numbered xs) k) e z h

-- ---- set and file numbers that pass

pub used_low : (b u : Bool) (s : ℕ) → b ≡ (ltb s 8 && u) → b ≡ true → s < 8
used_low b u s e h = ltb-true s 8 (and_left (ltb s 8) u (sym e ∙ h))

pub used_is : (b u : Bool) (s : ℕ) → b ≡ (ltb s 8 && u) → b ≡ true → u ≡ true
used_is b u s e h = and_right (ltb s 8) u (sym e ∙ h)

pub used_not : (b u : Bool) (s : ℕ) → b ≡ (ltb s 8 && u) → b ≡ false → s < 8 → u ≡ false
used_not b u s e h l = sym (rw (lt-ltb s 8 l) at e) ∙ h

pub in_place : (v : View) (s f n : ℕ) (ys : List (Bool × ℕ)) → n ≡ lowest (no_such_set v s ∷ no_such_file v f ∷ ys) → n ≡ 0 → (s < 8) × (f < 16)
in_place v s f n ys e z =
    let a = none_applies _ 1 n _ e z in
    let b = none_applies _ 2 n _ a.1 z in
    (ltb-true s 8 (and_left (ltb s 8) (v.tree.used s) (not-false _ a.0)), ltb-true f 16 (not-false _ b.0))

-- ---- the rows of the table: the tables are well formed

-- A row in two parts: the number n of the first part is above 0, and the call's; or n is 0, and the call's is the number m of the second.
module _ (st : Store real) (s f n : ℕ) where
  abbrev seen : View
  seen = view_of real true true st

  module _ (e : n ≡ lowest (read_only_place seen s f)) where
    pub create_first : (n ≡ 0 → ⊥) → n ≡ number_of seen (create s f)
    unfolding number_of conditions lowest
    create_first h = in_part (read_only_place seen s f) ((not (is_absent (seen.state f s)), 9) ∷ []) n e h

    pub create_then : n ≡ 0 → (m : ℕ) → m ≡ lowest ((not (is_absent (seen.state f s)), 9) ∷ []) → m ≡ number_of seen (create s f)
    unfolding number_of conditions lowest numbered
    create_then z m h = after_part (read_only_place seen s f) ((not (is_absent (seen.state f s)), 9) ∷ []) n m refl e z h

    pub delete_first : (n ≡ 0 → ⊥) → n ≡ number_of seen (delete s f)
    unfolding number_of conditions lowest
    delete_first h = in_part (read_only_place seen s f) (file_absent seen s f ∷ []) n e h

    pub delete_then : n ≡ 0 → (m : ℕ) → m ≡ lowest (file_absent seen s f ∷ []) → m ≡ number_of seen (delete s f)
    unfolding number_of conditions lowest numbered
    delete_then z m h = after_part (read_only_place seen s f) (file_absent seen s f ∷ []) n m refl e z h

    pub not_changeable_first : (n ≡ 0 → ⊥) → n ≡ lowest (not_changeable seen s f)
    not_changeable_first h = in_part (read_only_place seen s f) (not_readable seen s f) n e h

    pub not_changeable_then : n ≡ 0 → (m : ℕ) → m ≡ lowest (not_readable seen s f) → m ≡ lowest (not_changeable seen s f)
    unfolding numbered
    not_changeable_then z m h = after_part (read_only_place seen s f) (not_readable seen s f) n m refl e z h

  module _ (e : n ≡ lowest (not_changeable seen s f)) where
    pub write_first : (off : ℕ) (bs : List ℕ) → (n ≡ 0 → ⊥) → (g : ℕ) → n ≡ number_of seen (write g s f off bs)
    unfolding number_of conditions lowest
    write_first off bs h g = in_part (not_changeable seen s f) (end_or_need_over seen (off + length bs) (seen.write_need s f off (length bs))) n e h

    pub write_then : (off : ℕ) (bs : List ℕ) → n ≡ 0 → (m : ℕ) → m ≡ lowest (end_or_need_over seen (off + length bs) (seen.write_need s f off (length bs)))
        → (g : ℕ) → m ≡ number_of seen (write g s f off bs)
    unfolding number_of conditions lowest numbered
    write_then off bs z m h g = after_part (not_changeable seen s f) (end_or_need_over seen (off + length bs) (seen.write_need s f off (length bs))) n m refl e z h

    pub truncate_first : (size : ℕ) → (n ≡ 0 → ⊥) → n ≡ number_of seen (truncate s f size)
    unfolding number_of conditions lowest
    truncate_first size h = in_part (not_changeable seen s f) (end_or_need_over seen size (seen.truncate_need s f size)) n e h

    pub truncate_then : (size : ℕ) → n ≡ 0 → (m : ℕ) → m ≡ lowest (end_or_need_over seen size (seen.truncate_need s f size)) → m ≡ number_of seen (truncate s f size)
    unfolding number_of conditions lowest numbered
    truncate_then size z m h = after_part (not_changeable seen s f) (end_or_need_over seen size (seen.truncate_need s f size)) n m refl e z h

  module _ (e : n ≡ lowest (no_such_place seen s f)) where
    pub read_only_place_first : (n ≡ 0 → ⊥) → n ≡ lowest (read_only_place seen s f)
    read_only_place_first h = in_part (no_such_place seen s f) (read_only seen s ∷ []) n e h

    pub read_only_place_then : n ≡ 0 → (m : ℕ) → m ≡ lowest (read_only seen s ∷ []) → m ≡ lowest (read_only_place seen s f)
    unfolding numbered
    read_only_place_then z m h = after_part (no_such_place seen s f) (read_only seen s ∷ []) n m refl e z h

    -- of a read and of the call that tells a size
    pub look_first : (n ≡ 0 → ⊥) → ((off : ℕ) (buffer : List ℕ) → n ≡ number_of seen (read s f off buffer)) × (n ≡ number_of seen (tell_size s f))
    unfolding number_of conditions lowest
    look_first h = let q = in_part (no_such_place seen s f) (not_readable seen s f) n e h in (λ off buffer. q, q)

    pub look_then : n ≡ 0 → (m : ℕ) → m ≡ lowest (not_readable seen s f)
        → ((off : ℕ) (buffer : List ℕ) → m ≡ number_of seen (read s f off buffer)) × (m ≡ number_of seen (tell_size s f))
    unfolding number_of conditions lowest numbered
    look_then z m h = let q = after_part (no_such_place seen s f) (not_readable seen s f) n m refl e z h in (λ off buffer. q, q)

module _ (st : Store real) (s n : ℕ) where
  pub make_row : (c : ℕ) (w : Bool)
      → n ≡ lowest ((not (ltb s 8 && (st.sets s).used) || not (ltb c 8), 2) ∷ ((st.sets c).used, 9) ∷ (leb 5 (st.sets s).level, 10) ∷ [])
      → n ≡ number_of (view_of real true true st) (make s c w)
  unfolding number_of conditions lowest
  make_row c w e = e

  pub remove_row : n ≡ lowest (no_such_set (view_of real true true st) s ∷ (not (is_nil (children_of st.sets s)), 11) ∷ (eqb s 0, 12) ∷ [])
      → n ≡ number_of (view_of real true true st) (remove s)
  unfolding number_of conditions lowest
  remove_row e = e

  pub term_row : (y m d k : ℕ) → n ≡ lowest (no_such_set (view_of real true true st) s ∷ (not (date_exists y m d), 14) ∷ (not (count_fits k), 15) ∷ [])
      → n ≡ lowest (set_term_conditions (view_of real true true st) s y m d k)
  unfolding set_term_conditions lowest
  term_row y m d k e = e

  pub current_row : n ≡ lowest (no_such_set (view_of real true true st) s ∷ []) → n ≡ lowest (current_conditions (view_of real true true st) s)
  unfolding current_conditions lowest
  current_row e = e

-- one of two conditions of the same number applies; neither does
pub first_applies : (a b : Bool) → a ≡ true → (a || b) ≡ true
first_applies a b h = rw h

pub neither_applies : (a b : Bool) → a ≡ false → b ≡ false → (a || b) ≡ false
neither_applies a b h k = rw (h, k)

-- ---- 7 and 8: the end, and the need, where r says whether m blocks are free

module _ (st : Store real) (end need : ℕ) where
  pub over_end : ltb 32768 end ≡ true → 7 ≡ lowest (end_or_need_over (view_of real true true st) end need)
  over_end h = here _ 7 (need_over (view_of real true true st) need ∷ []) h

  module _ (low : ltb 32768 end ≡ false) (r : Bool) (m : ℕ) (free : r ≡ leb m (count st.memory.blocks (λ b. not (st.memory.bits b)))) (needed : m ≡ need) where
    too_few : r ≡ false → ltb (free_blocks st.memory) need ≡ true
    unfolding free_blocks
    too_few h = let n = count st.memory.blocks (λ b. not (st.memory.bits b)) in lt-ltb n need (omega (arith, leb-false m n (sym free ∙ h)))

    enough : r ≡ true → ltb (free_blocks st.memory) need ≡ false
    unfolding free_blocks
    enough h = let n = count st.memory.blocks (λ b. not (st.memory.bits b)) in le-ltb n need (omega (arith, leb-true m n (sym free ∙ h)))

    pub over_need : r ≡ false → 8 ≡ lowest (end_or_need_over (view_of real true true st) end need)
    over_need h = past (ltb 32768 end) 7 8 (need_over (view_of real true true st) need ∷ []) low (here _ 8 [] (too_few h))

    pub not_over : r ≡ true → 0 ≡ lowest (end_or_need_over (view_of real true true st) end need)
    not_over h = past (ltb 32768 end) 7 0 (need_over (view_of real true true st) need ∷ []) low (past _ 8 0 [] (enough h) none_left)

-- ---- children

module _ (sets : ℕ → SetRecord) (s : ℕ) where
  pub some_child : (sets s).used ≡ true → (sets s).first_child < 8 → not (is_nil (children_of sets s)) ≡ true
  unfolding children_of chain
  some_child u l = rw (u, lt-ltb (sets s).first_child 8 l)

  pub no_child : 8 ≤ (sets s).first_child → not (is_nil (children_of sets s)) ≡ false
  unfolding children_of chain
  no_child l = test? (sets s).used (λ e. rw (e, le-ltb (sets s).first_child 8 l)) (λ e. rw e)
