-- A part of a list that is written whole is a run of stores. Assumes nothing.
use Rattle.std.specs.Prelude.{List, ◌++◌, ◌≡◌, ℕ, ◌+◌, ◌-◌, ◌<◌, ◌≤◌, ltb, length, get_or, drop, take, replicate}
use Rattle.std.specs.List.{copy_within}
use Rattle.std.proofs.Common.{ap, refl, append_assoc, drop-drop, sym, ◌∙◌, arith, ext_get_or, ltb-false, ltb-true, length-append, length-take, length-drop, get_or-take, get_or-drop}
use Rattle.std.proofs.lemmas.List.{get_or-replicate, length-replicate}
use Rattle.std.proofs.lemmas.Grind.{common_steps}
use borrow.Rule.Slice.PartMut.{put_mid}
use Rattle.base.specs.Logic.{test?}
use Rattle.pages.specs.Run.{run, run_in, run_out, length_run}

module _ (l ys : List ℕ) (at n : ℕ) (f : ℕ → ℕ) (h : at + n ≤ length l) (e : length ys ≡ n) (g : (i : ℕ) → i < n → get_or ys i 0 ≡ f i) where
  long : length (put_mid at n l ys) ≡ length (run l at f n)
  long = rw length_run (simp (length-append, length-take, length-drop) (omega arith))

  before : (i : ℕ) → i < at → get_or (put_mid at n l ys) i 0 ≡ get_or l i 0
  before i b = grind (arith, common_steps)

  here : (i : ℕ) → i < n → get_or (put_mid at n l ys) (at + i) 0 ≡ get_or ys i 0
  here i b = grind (arith, common_steps)

  after : (i : ℕ) → at + n ≤ i → get_or (put_mid at n l ys) i 0 ≡ get_or l i 0
  after i b = grind (arith, common_steps)

  -- the n places from `at` on get ys, whose elements are those of f
  pub part_run : put_mid at (at + n - at) l ys ≡ run l at f n
  part_run =
      let k : at + n - at ≡ n = omega arith in
      rw k (ext_get_or 0 (put_mid at n l ys) (run l at f n) long (λ i b. test? (ltb i at)
      (λ q. let c = ltb-true i at q in before i c ∙ sym (run_out l at f n i (λ j m d. omega arith)))
      (λ q. let c = ltb-false i at q in test? (ltb i (at + n))
      (λ r. let d = ltb-true i (at + n) r in
      let z : at + (i - at) ≡ i = omega arith in
      rw z at (here (i - at) (omega arith) ∙ g (i - at) (omega arith) ∙ sym (run_in l at f n (i - at) (omega arith) h)))
      (λ r. let d = ltb-false i (at + n) r in after i d ∙ sym (run_out l at f n i (λ j m u. omega arith))))))

-- n places get the n elements of s from `start` on
pub copied_run : (l s ys : List ℕ) (at start n : ℕ) → at + n ≤ length l → start + n ≤ length s → ys ≡ take (start + n - start) (drop start s)
    → put_mid at (at + n - at) l ys ≡ run l at (λ i. get_or s (start + i) 0) n
copied_run l s ys at start n h k e =
    let q : start + n - start ≡ n = omega arith in
    let z : ys ≡ take n (drop start s) = rw q at e in
    part_run l ys at n (λ i. get_or s (start + i) 0) h (rw z (simp (length-take, length-drop) (omega arith))) (λ i b. rw (z, get_or-take, get_or-drop))

-- n places get zeros
pub zeroed_run : (l ys : List ℕ) (at n : ℕ) → at + n ≤ length l → ys ≡ replicate (length (take (at + n - at) (drop at l))) 0
    → put_mid at (at + n - at) l ys ≡ run l at (λ i. 0) n
zeroed_run l ys at n h e =
    let q : length (take (at + n - at) (drop at l)) ≡ n = simp (length-take, length-drop) (omega arith) in
    let z : ys ≡ replicate n 0 = rw q at e in
    part_run l ys at n (λ i. 0) h (rw (z, length-replicate)) (λ i b. rw z (get_or-replicate n i 0 0 b))

-- n places get the n elements of the same list from `start` on
pub moved_run : (l : List ℕ) (at start n : ℕ) → at + n ≤ length l → start + n ≤ length l → copy_within l start (start + n) at ≡ run l at (λ i. get_or l (start + i) 0) n
moved_run l at start n h k =
    let ys = take (start + n - start) (drop start l) in
    let p : at + n - at ≡ n = omega arith in
    let q : start + n - start ≡ n = omega arith in
    let r : copy_within l start (start + n) at ≡ put_mid at n l ys =
    append_assoc (take at l) ys _ ∙ ap (λ (z : List ℕ). take at l ++ (ys ++ z)) (rw q (sym (drop-drop n at l))) in
    r ∙ rw p at (copied_run l l ys at start n h k refl)
