-- The rules on a file that concern the sets above, in the order of the code's tests: parents go first. Assumes nothing.
use mathlib.Core.Bool.{◌&&◌, Bool, cond, false, not, true, true≢false, ◌||◌}
use mathlib.Core.List.{List}
use mathlib.Core.Path.{ap, ap₂, refl, subst, sym, ◌∙◌, ◌≡◌}
use Prim.Native.Nat.{◌%◌, ◌*◌, ◌+◌, ◌-◌, ◌/◌, ◌<◌, ◌^◌, suc, zero, ℕ, ◌≤◌}
use native.Mathlib.Omega.{arith}
use native.Mathlib.Nat.{lt_of_le_of_lt}
use lib.Bits.{and_le_l, and_zero_r, bit_and, bit_or}
use lib.Count.{count_trailing_zeros}
use lib.Dec.{eqb, ltb}
use lib.ListN.{get_or, length, length-replicate, length-set, replicate, set}
use lib.Pow.{pow_pos}
use lib.Seq.{get_or-set_other, get_or-set_same}
use borrow.Author.Tests.{eq-eqb, eqb-true, le-ltb, lt-ltb, ltb-false, ltb-true, ne_eqb, not-false, not-true}
use Rattle.base.specs.Count.{all, all_not, all_of}
use Rattle.base.specs.Logic.{and_false, and_right, same?, test?}
use Rattle.masks.proofs.Digits.{and_power}
use Rattle.masks.proofs.LowestBit.{Lowest, below_lowest, lowest_is}
use Rattle.masks.proofs.PageMasks.{mask_some}
use Rattle.masks.specs.Pages.{page_mask}
use Rattle.formed.proofs.AloneRules.{some_unmapped_law}
use Rattle.formed.proofs.Past.{past_none, past_shift}
use Rattle.formed.proofs.Resolved.{resolved_above, resolved_own}
use Rattle.formed.specs.Files.{LinkDecided, Numbered, end_of, ends_before, file_alone, file_linked, place_digit, place_of, resolved_mask}
use Rattle.maps.proofs.OutOfRange.{state_out}
use Rattle.packing.specs.Bitmap.{is_one}
use Rattle.packing.specs.Bits.{bit, bit_none}
use Rattle.packing.specs.Fields.{get_field}
use Rattle.rules.proofs.Formed.Tests.{and_5, not_then, or_then}
use Rattle.rules.proofs.Steps.States.{live_present}
use Rattle.rules.specs.Reading.{dependent, resolve, some_unmapped}
use Rattle.rules.specs.State.{File, State, absent, file_count, is_absent, is_marked, is_own, is_stored, is_unmapped, is_virgin, live, marked, own, tree_of, virgin}
use Rattle.rules.specs.WellFormed.{above_formed, all_pages, past_formed, root_file_formed, size_formed, virgin_formed, zero_file}
use Rattle.tables.specs.Layout.{head_widths, head_word}
use Rattle.tables.specs.Packed.{unpack}

-- ---- what the rules that concern no other file say of a live one
own_not : (l : State) → live l ≡ false → is_own l ≡ false
own_not absent h = refl
own_not own h = h
own_not virgin h = refl
own_not marked h = refl

module _ (t : List ℕ) (f s : ℕ) (h : file_alone t true f s ≡ true) (lv : live ((unpack t).files f s).state ≡ true) where
  abbrev file : File ℕ
  file = (unpack t).files f s

  parts : (eqb (get_field head_widths (head_word t f s) 2) 0 ≡ true) × ((not (is_absent file.state) || zero_file file) ≡ true)
      × ((((unpack t).sets s).used || is_absent file.state) ≡ true) × (size_formed file ≡ true)
      × ((virgin_formed file && true && (not (eqb s 0) || root_file_formed file)) ≡ true)
  unfolding file_alone
  parts = and_5 (eqb (get_field head_widths (head_word t f s) 2) 0) (not (is_absent file.state) || zero_file file) (((unpack t).sets s).used || is_absent file.state)
      (size_formed file) (virgin_formed file && true && (not (eqb s 0) || root_file_formed file)) h

  -- LAW: its set is used
  pub live_used : ((unpack t).sets s).used ≡ true
  live_used = test? ((unpack t).sets s).used (λ e. e)
      (λ e. absurd (true≢false (sym (or_then ((unpack t).sets s).used (is_absent file.state) parts.2 e) ∙ live_present file.state lv)))

  -- LAW: in set 0, no page is unmapped
  root_mapped : s ≡ 0 → page_mask is_unmapped file.map ≡ 0
  root_mapped e =
      let r = not_then (eqb s 0) (root_file_formed file) (and_right (virgin_formed file && true) (not (eqb s 0) || root_file_formed file) parts.4) (eq-eqb s 0 e) in
      let q = or_then (is_absent file.state) (not (is_virgin file.state) && not (is_marked file.state) && not (some_unmapped 64 file.map)) r (live_present file.state lv) in
      let n = and_right (not (is_virgin file.state) && not (is_marked file.state)) (not (some_unmapped 64 file.map)) q in
      eqb-true (page_mask is_unmapped file.map) 0 (not-false (eqb (page_mask is_unmapped file.map) 0) (mask_some file.map ∙ not-true (some_unmapped 64 file.map) n))

-- ---- the pages past the size
-- LAW: there is none
pub ends_all : (k m : ℕ) → 64 ≤ k → true ≡ ends_before k m
unfolding ends_before
ends_all k m h = sym (ap (λ b. cond b (eqb (m * 2 ^ k % 2 ^ 64) 0) true) (le-ltb k 64 h))

-- LAW: there are some
pub ends_shift : (k m : ℕ) → k < 64 → eqb (m * 2 ^ k % 2 ^ 64) 0 ≡ ends_before k m
unfolding ends_before
ends_shift k m h = sym (ap (λ b. cond b (eqb (m * 2 ^ k % 2 ^ 64) 0) true) (lt-ltb k 64 h))

module _ (t : List ℕ) (f s k m : ℕ) (ek : k ≡ end_of ((unpack t).files f s).state ((unpack t).files f s).size) (em : m ≡ resolved_mask t f s) where
  past_other : is_own ((unpack t).files f s).state ≡ false → ends_before k m ≡ past_formed (unpack t) f s
  unfolding past_formed end_of
  past_other h = let e : k ≡ 64 = ek ∙ ap (λ b. cond b ((((unpack t).files f s).size + 511) / 512) 64) h in sym (ends_all k m (omega arith)) ∙ rw h

  module _ (h : is_own ((unpack t).files f s).state ≡ true) where
    own_past : all 64 (λ p. ltb (p * 512) ((unpack t).files f s).size || not (is_stored (resolve (tree_of (unpack t).sets) ((unpack t).files f) s p))) ≡ past_formed (unpack t) f s
    unfolding past_formed all_pages
    own_past = rw h

    own_end : k ≡ (((unpack t).files f s).size + 511) / 512
    unfolding end_of
    own_end = ek ∙ ap (λ b. cond b ((((unpack t).files f s).size + 511) / 512) 64) h

    past_own : ends_before k m ≡ past_formed (unpack t) f s
    past_own =
        let g : ℕ → Bool = λ p. is_stored (resolve (tree_of (unpack t).sets) ((unpack t).files f) s p) in
        test? (ltb k 64)
        (λ e. let l = ltb-true k 64 e in sym (ends_shift k m l) ∙ past_shift g m k ((unpack t).files f s).size em own_end l ∙ own_past)
        (λ e. let l = ltb-false k 64 e in sym (ends_all k m l) ∙ past_none g ((unpack t).files f s).size (subst (λ x. 64 ≤ x) own_end l) ∙ own_past)

  -- LAW: "In an own file, no page wholly past the size resolves to stored."
  past_ends : ends_before k m ≡ past_formed (unpack t) f s
  past_ends = test? (is_own ((unpack t).files f s).state) past_own past_other

-- ---- file f of set s, which is live
module _ (t : List ℕ) (f s : ℕ) (digits parents stored unmapped ends : List ℕ) (lives : ℕ) (k : Numbered t f digits parents stored unmapped ends lives) where
  -- LAW: is the file of set x live
  live_digit : (x : ℕ) → x < 8 → not (eqb (bit_and lives (get_or digits x 0)) 0) ≡ live ((unpack t).files f x).state
  unfolding place_digit
  live_digit x l = test? ((unpack t).sets x).used used unused
    where
      here : bit_and lives (get_or digits x 0) ≡ bit_and lives (place_digit ((unpack t).sets x) x)
      here = ap (bit_and lives) (k.places.digits_are x l)

      used : ((unpack t).sets x).used ≡ true → not (eqb (bit_and lives (get_or digits x 0)) 0) ≡ live ((unpack t).files f x).state
      used u =
          let p : ℕ = place_of (unpack t).sets x in
          ap (λ y. not (eqb y 0)) (here ∙ ap (λ b. bit_and lives (cond b (2 ^ p) 0)) u ∙ and_power lives p) ∙ go p (bit lives p) ∙ k.lives_are.live_at x l
        where
          go : (p d : ℕ) → not (eqb (d * 2 ^ p) 0) ≡ is_one d
          go p zero = rw (eq-eqb (0 * 2 ^ p) 0 (omega arith))
          go p (suc d) = rw (ne_eqb (suc d * 2 ^ p) 0 (λ e. some (2 ^ p) (pow_pos p) e))
            where
              some : (x : ℕ) → 0 < x → suc d * x ≡ 0 → ⊥
              some x h e = let q : suc d * x ≡ d * x + x = omega arith in omega arith

      unused : ((unpack t).sets x).used ≡ false → not (eqb (bit_and lives (get_or digits x 0)) 0) ≡ live ((unpack t).files f x).state
      unused u =
          ap (λ y. not (eqb y 0)) (here ∙ ap (λ b. bit_and lives (cond b (2 ^ place_of (unpack t).sets x) 0)) u ∙ and_zero_r lives)
          ∙ test? (live ((unpack t).files f x).state) (λ e. absurd (true≢false (sym (live_used t f x (k.alone x l) e) ∙ u))) (λ e. sym e)

  module _ (ls : s < 8) (lv : live ((unpack t).files f s).state ≡ true) (u : ℕ) (eu : u ≡ get_or unmapped (s * file_count + f) 0) where
    unmapped_is : u ≡ page_mask is_unmapped ((unpack t).files f s).map
    unmapped_is = eu ∙ k.masks.unmapped_at f s k.low ls

    some_is : not (eqb u 0) ≡ some_unmapped 64 ((unpack t).files f s).map
    some_is = some_unmapped_law u ((unpack t).files f s).map unmapped_is

    linked_by : (a b r : Bool) → a ≡ above_formed (unpack t) f s → b ≡ past_formed (unpack t) f s → r ≡ (a && b) → r ≡ file_linked t f s
    unfolding file_linked
    linked_by a b r ea eb er = er ∙ ap₂ ◌&&◌ ea eb

    above_mapped : u ≡ 0 → true ≡ above_formed (unpack t) f s
    unfolding dependent
    above_mapped h = rw (← some_is, eq-eqb u 0 h, and_false (live ((unpack t).files f s).state))

    -- LAW: no page is unmapped
    mapped_mask : u ≡ 0 → get_or stored (s * file_count + f) 0 ≡ resolved_mask t f s
    mapped_mask h = k.masks.stored_at f s k.low ls ∙ resolved_own (unpack t).sets ((unpack t).files f) s (sym unmapped_is ∙ h)

    -- the pages m that resolve to stored are kept, and those past the size decide
    by_mask : (m : ℕ) → m ≡ resolved_mask t f s → true ≡ above_formed (unpack t) f s → (resolved resolved' : List ℕ) (r : Bool)
        → (r ≡ ends_before (get_or ends s 0) m) × (resolved' ≡ set resolved s m) → LinkDecided t f s resolved resolved' r
    by_mask m em a resolved resolved' r e = record {
      decided = linked_by true r r a (e.0 ∙ past_ends t f s (get_or ends s 0) m (k.ends_are.ends_are s ls) em) refl;
      kept = λ o. e.1 ∙ ap (set resolved s) em;
    }

    pub mapped_decided : u ≡ 0 → (resolved resolved' : List ℕ) (r : Bool)
        → (r ≡ ends_before (get_or ends s 0) (get_or stored (s * file_count + f) 0)) × (resolved' ≡ set resolved s (get_or stored (s * file_count + f) 0)) → LinkDecided t f s resolved resolved' r
    mapped_decided h = by_mask (get_or stored (s * file_count + f) 0) (mapped_mask h) (above_mapped h)

    -- LAW: some page is unmapped; x is the parent set
    module _ (n : u ≡ 0 → ⊥) (x : ℕ) (ep : x ≡ get_or parents s 0) where
      parent_is : x ≡ ((unpack t).sets s).parent
      parent_is = ep ∙ k.places.parents_are s ls (live_used t f s (k.alone s ls) lv)

      from_parent : live ((unpack t).files f x).state ≡ above_formed (unpack t) f s
      unfolding dependent
      from_parent = rw (lv, ← some_is, ne_eqb u 0 n, ← parent_is)

      not_above : (resolved : List ℕ) → live ((unpack t).files f x).state ≡ false → LinkDecided t f s resolved resolved false
      not_above resolved e = record { decided = linked_by false (past_formed (unpack t) f s) false (sym e ∙ from_parent) refl refl; kept = λ o. absurd (true≢false (sym o)) }

      pub none_above : (resolved : List ℕ) → 8 ≤ x → LinkDecided t f s resolved resolved false
      none_above resolved b = not_above resolved (ap live (state_out t x b f))

      pub dead_above : (resolved : List ℕ) → x < 8 → bit_and lives (get_or digits x 0) ≡ 0 → LinkDecided t f s resolved resolved false
      dead_above resolved l e = not_above resolved (sym (live_digit x l) ∙ ap not (eq-eqb (bit_and lives (get_or digits x 0)) 0 e))

      -- the file of the parent set is live
      module _ (lx : x < 8) (e : bit_and lives (get_or digits x 0) ≡ 0 → ⊥) (resolved : List ℕ)
          (up : (n : ℕ) → ((unpack t).sets s).level ≡ suc n → live ((unpack t).files f ((unpack t).sets s).parent).state ≡ true
          → get_or resolved ((unpack t).sets s).parent 0 ≡ resolved_mask t f ((unpack t).sets s).parent) where
        live_above : live ((unpack t).files f x).state ≡ true
        live_above = sym (live_digit x lx) ∙ ap not (ne_eqb (bit_and lives (get_or digits x 0)) 0 e)

        above_mask : bit_or (get_or stored (s * file_count + f) 0) (bit_and u (get_or resolved x 0)) ≡ resolved_mask t f s
        above_mask = same? ((unpack t).sets s).level 0
            (λ z. absurd (n (unmapped_is ∙ root_mapped t f s (k.alone s ls) lv (k.falling.one_root s ls (live_used t f s (k.alone s ls) lv) z))))
            (λ z.
            let n : ℕ = ((unpack t).sets s).level - 1 in
            let q : ((unpack t).sets s).level ≡ suc n = omega arith in
            let a : get_or resolved x 0 ≡ resolved_mask t f ((unpack t).sets s).parent =
            ap (λ y. get_or resolved y 0) parent_is ∙ up n q (ap (λ y. live ((unpack t).files f y).state) (sym parent_is) ∙ live_above) in
            ap₂ (λ a b. bit_or a (bit_and b (get_or resolved x 0))) (k.masks.stored_at f s k.low ls) unmapped_is
            ∙ ap (λ y. bit_or (page_mask is_stored ((unpack t).files f s).map) (bit_and (page_mask is_unmapped ((unpack t).files f s).map) y)) a
            ∙ resolved_above (unpack t).sets ((unpack t).files f) s n q (k.falling.falls s n ls q).1)

        pub above_decided : (resolved' : List ℕ) (r : Bool)
            → (r ≡ ends_before (get_or ends s 0) (bit_or (get_or stored (s * file_count + f) 0) (bit_and u (get_or resolved x 0)))) × (resolved' ≡ set resolved s (bit_or (get_or stored (s * file_count + f) 0) (bit_and u (get_or resolved x 0))))
            → LinkDecided t f s resolved resolved' r
        above_decided = by_mask (bit_or (get_or stored (s * file_count + f) 0) (bit_and u (get_or resolved x 0))) above_mask (sym live_above ∙ from_parent) resolved

-- ---- all sets
-- the files of the sets whose digits are not left have been looked at
pub record Linking (t : List ℕ) (f lives : ℕ) (resolved : List ℕ) (left : ℕ) : Type 0 where
  pub fits : left < 2 ^ 64
  pub within : (j : ℕ) → j < 64 → is_one (bit left j) ≡ true → is_one (bit lives j) ≡ true
  pub len : length resolved ≡ 8
  pub done : (s : ℕ) → s < 8 → live ((unpack t).files f s).state ≡ true → is_one (bit left (place_of (unpack t).sets s)) ≡ false
      → (file_linked t f s ≡ true) × (get_or resolved s 0 ≡ resolved_mask t f s)

module _ (t : List ℕ) (f : ℕ) (digits parents stored unmapped ends : List ℕ) (lives : ℕ) (k : Numbered t f digits parents stored unmapped ends lives) where
  -- LAW: no file has been looked at
  pub linking_start : (resolved : List ℕ) → lives < 2 ^ 64 → length resolved ≡ 8 → Linking t f lives resolved lives
  linking_start resolved l len = record {
    fits = l;
    within = λ j l h. h;
    len = len;
    done = λ s l a b. absurd (true≢false (sym a ∙ sym (k.lives_are.live_at s l) ∙ b));
  }

  -- LAW: all have
  pub linking_done : (resolved : List ℕ) (left : ℕ) → Linking t f lives resolved left → left ≡ 0 → true ≡ all 8 (file_linked t f)
  unfolding file_linked dependent past_formed
  linking_done resolved left i e = sym (all_of 8 (file_linked t f) (λ s l.
      test? (live ((unpack t).files f s).state)
      (λ a. (i.done s l a (ap is_one (ap (λ x. bit x (place_of (unpack t).sets s)) e ∙ bit_none (place_of (unpack t).sets s)))).0)
      (λ a. dead s a)))
    where
      dead : (s : ℕ) → live ((unpack t).files f s).state ≡ false → file_linked t f s ≡ true
      dead s a = rw (a, own_not ((unpack t).files f s).state a)

  -- LAW: there is none
  pub linking_none : lives ≡ 0 → true ≡ all 8 (file_linked t f)
  linking_none e = linking_done (replicate 8 0) lives (linking_start (replicate 8 0) (omega (arith, e)) (length-replicate {A = ℕ} 8 0)) e

  -- that of the lowest digit left is looked at
  module _ (resolved : List ℕ) (left : ℕ) (i : Linking t f lives resolved left) (h : 0 < left) (p : ℕ) (z : p ≡ count_trailing_zeros 64 left) (lp : p < 64) where
    abbrev set_of : ℕ
    set_of = p % 8

    low : Lowest left (bit_and left (left - 1)) p
    low = subst (Lowest left (bit_and left (left - 1))) (sym z) (lowest_is 64 left h i.fits).1

    in_lives : is_one (bit lives p) ≡ true
    in_lives = i.within p lp (ap is_one low.set_bit)

    place_is : p ≡ place_of (unpack t).sets set_of
    place_is = k.lives_are.only p lp in_lives

    -- LAW: it is live
    pub next_live : live ((unpack t).files f set_of).state ≡ true
    next_live = sym (k.lives_are.live_at set_of (omega arith)) ∙ ap (λ x. is_one (bit lives x)) (sym place_is) ∙ in_lives

    -- LAW: that of the parent has been looked at
    pub next_above : (n : ℕ) → ((unpack t).sets set_of).level ≡ suc n → live ((unpack t).files f ((unpack t).sets set_of).parent).state ≡ true
        → get_or resolved ((unpack t).sets set_of).parent 0 ≡ resolved_mask t f ((unpack t).sets set_of).parent
    next_above n e a =
        let x : ℕ = ((unpack t).sets set_of).parent in
        let d = k.falling.falls set_of n (omega arith) e in
        let l : place_of (unpack t).sets x < p = omega (arith, place_is, e, d.0, d.1) in
        (i.done x d.0 a (ap is_one (below_lowest 64 left (place_of (unpack t).sets x) (subst (λ y. place_of (unpack t).sets x < y) z l)))).1

    module _ (resolved' : List ℕ) (r : Bool) (g : LinkDecided t f set_of resolved resolved' r) where
      -- LAW: a rule does not hold
      pub linking_refused : r ≡ false → false ≡ all 8 (file_linked t f)
      linking_refused n = sym (all_not 8 (file_linked t f) set_of (omega arith) (sym g.decided ∙ n))

      -- LAW: the rules hold
      pub linking_next : r ≡ true → Linking t f lives resolved' (bit_and left (left - 1))
      linking_next n =
          let o = n in
          let c = g.kept o in
          record {
            fits = lt_of_le_of_lt (and_le_l left (left - 1)) i.fits;
            within = λ j l b. same? p j
                (λ q. absurd (true≢false (sym b ∙ ap is_one (ap (bit (bit_and left (left - 1))) (sym q) ∙ low.clear))))
                (λ q. i.within j l (sym (ap is_one (low.others j q)) ∙ b));
            len = ap length c ∙ length-set resolved set_of (resolved_mask t f set_of) ∙ i.len;
            done = λ y ly a b. same? y set_of
                (λ q. (
                  ap (file_linked t f) q ∙ sym g.decided ∙ o,
                  ap₂ (λ v w. get_or v w 0) c q ∙ get_or-set_same resolved set_of (resolved_mask t f set_of) 0 (omega (arith, i.len)) ∙ ap (resolved_mask t f) (sym q),
                ))
                (λ q.
                let w = i.done y ly a (sym (ap is_one (low.others (place_of (unpack t).sets y) (λ m. q (omega arith)))) ∙ b) in
                (w.0, ap (λ v. get_or v y 0) c ∙ get_or-set_other resolved set_of y (resolved_mask t f set_of) 0 q ∙ w.1));
          }
