-- The heads of the files of a number: one head, the heads so far, and all. Assumes nothing.
use mathlib.Core.Bool.{◌&&◌, Bool, cond, false, not, true, true≢false}
use mathlib.Core.List.{List, ◌++◌}
use mathlib.Core.Path.{ap, ap₂, refl, subst, sym, ◌∙◌, ◌≡◌}
use Prim.Native.Nat.{◌*◌, ◌+◌, ◌/◌, ◌<◌, ℕ, ◌≤◌}
use native.Mathlib.Omega.{arith}
use lib.Bits.{bit_or, or_zero_r}
use lib.Dec.{eqb, ltb}
use lib.ListN.{get_or, length, length-set, set}
use lib.Seq.{get_or-set_other, set-get_or}
use borrow.Author.Tests.{ltb-false, ltb-true}
use Rattle.base.specs.Count.{all, all_at, all_not, all_of}
use Rattle.base.specs.Logic.{and_false, and_true, same?, test?}
use Rattle.entrycheck.proofs.Lists.{put_more}
use Rattle.entrycheck.specs.Records.{AllAre, BlankFrom}
use Rattle.masks.specs.Pages.{page_mask}
use Rattle.formed.proofs.AloneRules.{alone_head, head_virgin, head_zero, older_alone, size_is, state_is}
use Rattle.formed.proofs.Blank.{blank_alone, blank_dead, blank_end}
use Rattle.formed.proofs.FileHead.{first_byte}
use Rattle.formed.proofs.LinkedRules.{live_used}
use Rattle.formed.proofs.PlaceDigits.{digit_used, lives_next, rest_next}
use Rattle.formed.specs.Files.{EndsTo, LivesTo, end_of, file_alone, file_linked, head_formed, number_formed, place_digit, place_of}
use Rattle.formed.specs.Heads.{HeadPassed, HeadsPassed}
use Rattle.packing.specs.Bitmap.{is_one}
use Rattle.packing.specs.Bits.{bit, bit_none}
use Rattle.packing.specs.Words.{get_word, low_word}
use Rattle.rules.specs.State.{State, is_unmapped, live, set_count}
use Rattle.tables.specs.Layout.{files_at, head_word, read_size, state_of}
use Rattle.tables.specs.Packed.{unpack}

-- ---- one head, by the eight bytes v from its first on
module _ (older : Bool) (files : List ℕ) (at v u s digit : ℕ) (e : v ≡ low_word 7 files at) (ends : List ℕ) (lives : ℕ) where
  abbrev w : ℕ
  w = get_word 3 files at

  -- LAW: an absent file
  pub bytes_none : v ≡ 0 → get_or ends s 0 ≡ 64 → HeadPassed older w u s digit ends ends lives lives (eqb u 18446744073709551615)
  unfolding end_of
  bytes_none z n =
      let q : w ≡ 0 = sym (first_byte files at v e (λ h. absurd (omega arith))) ∙ ap (λ x. x * 16777216) z in
      record {
        decided = head_zero older w u (not (eqb digit 0)) (eqb s 0) q;
        ends_are = sym (set-get_or ends s 0) ∙ ap (set ends s) (n ∙ ap (λ x. end_of (state_of (x / 1073741824)) (read_size x)) (sym q));
        lives_are = sym (ap (λ x. bit_or lives (cond (live (state_of (x / 1073741824))) digit 0)) q ∙ or_zero_r lives);
      }

  -- LAW: a virgin one of size 0
  pub bytes_virgin : v ≡ 128 → get_or ends s 0 ≡ 64 → (lives' : ℕ) (r : Bool)
      → (r ≡ (not (eqb digit 0) && (eqb u 18446744073709551615 && not (eqb s 0)))) × (lives' ≡ bit_or lives digit) → HeadPassed older w u s digit ends ends lives lives' r
  unfolding end_of
  bytes_virgin z n lives' r k =
      let q : w ≡ 2147483648 = sym (first_byte files at v e (λ h. z)) ∙ ap (λ x. x * 16777216) z in
      record {
        decided = k.0 ∙ sym (ap (λ x. head_formed older x u (not (eqb digit 0)) (eqb s 0)) q ∙ head_virgin older u (not (eqb digit 0)) (eqb s 0));
        ends_are = sym (set-get_or ends s 0) ∙ ap (set ends s) (n ∙ ap (λ x. end_of (state_of (x / 1073741824)) (read_size x)) (sym q));
        lives_are = k.1 ∙ ap (λ x. bit_or lives (cond (live (state_of (x / 1073741824))) digit 0)) (sym q);
      }

  -- LAW: any head, x being its word as the code has it
  pub bytes_any : (x : ℕ) → x ≡ w → (end y : ℕ) (r : Bool) → end ≡ end_of (state_of (x / 1073741824)) (read_size x)
      → y ≡ cond (live (state_of (x / 1073741824))) digit 0 → r ≡ head_formed older x u (not (eqb digit 0)) (eqb s 0)
      → HeadPassed older w u s digit ends (set ends s end) lives (bit_or lives y) r
  bytes_any x q end y r he hy hr = record {
    decided = hr ∙ ap (λ z. head_formed older z u (not (eqb digit 0)) (eqb s 0)) q;
    ends_are = ap (set ends s) (he ∙ ap (λ z. end_of (state_of (z / 1073741824)) (read_size z)) q);
    lives_are = ap (bit_or lives) (hy ∙ ap (λ z. cond (live (state_of (z / 1073741824))) digit 0) q);
  }

-- ---- the heads of the files of number f in the sets before set s
pub record HeadsTo (older : Bool) (t : List ℕ) (f : ℕ) (ends : List ℕ) (lives s : ℕ) : Type 0 where
  pub alone : (x : ℕ) → x < s → file_alone t older f x ≡ true
  pub ends_are : EndsTo ((unpack t).files f) s ends
  pub lives_are : LivesTo (unpack t).sets ((unpack t).files f) s lives
  -- those of the other sets are as they were
  pub rest_ends : (x : ℕ) → s ≤ x → x < 8 → get_or ends x 0 ≡ 64
  pub rest_lives : (x : ℕ) → s ≤ x → x < 8 → is_one (bit lives (place_of (unpack t).sets x)) ≡ false

module _ (older : Bool) (t : List ℕ) (f : ℕ) where
  -- LAW: no set yet
  pub heads_start : (ends : List ℕ) (lives : ℕ) → AllAre set_count ends 64 → lives ≡ 0 → HeadsTo older t f ends lives 0
  heads_start ends lives c e = record {
    alone = λ x l. absurd (omega arith);
    ends_are = record { len = c.0; ends_are = λ x l. absurd (omega arith) };
    lives_are = record { live_at = λ x l. absurd (omega arith); only = λ j l h. absurd (true≢false (sym h ∙ none j)) };
    rest_ends = λ x l m. c.1 x m;
    rest_lives = λ x l m. none (place_of (unpack t).sets x);
  }
    where
      none : (j : ℕ) → is_one (bit lives j) ≡ false
      none j = ap is_one (ap (λ x. bit x j) e ∙ bit_none j)

  module _ (ends : List ℕ) (lives s : ℕ) (k : HeadsTo older t f ends lives s) (lf : f < 16) (ls : s < 8) (w u digit : ℕ) (ew : w ≡ head_word t f s)
      (eu : u ≡ page_mask is_unmapped ((unpack t).files f s).map) (d : digit ≡ place_digit ((unpack t).sets s) s)
      (ends' : List ℕ) (lives' : ℕ) (ok : Bool) (x : HeadPassed older w u s digit ends ends' lives lives' ok) where
    decides : ok ≡ file_alone t older f s
    decides = alone_head t f s w u lf ls ew eu older (not (eqb digit 0)) ok (digit_used ((unpack t).sets s) s digit d) x.decided

    ends_is : ends' ≡ set ends s (end_of ((unpack t).files f s).state ((unpack t).files f s).size)
    ends_is = x.ends_are ∙ ap (set ends s) (ap₂ end_of (state_is t f s w u lf ls ew eu) (size_is t f s w u lf ls ew eu))

    lives_is : lives' ≡ bit_or lives (cond (live ((unpack t).files f s).state) digit 0)
    lives_is = x.lives_are ∙ ap (λ (l : State). bit_or lives (cond (live l) digit 0)) (state_is t f s w u lf ls ew eu)

    -- LAW: a head that passes
    pub heads_next : ok ≡ true → HeadsTo older t f ends' lives' (s + 1)
    heads_next h =
        let a = sym decides ∙ h in
        let g = ends_is in
        let c = lives_is in
        let used = live_used t f s (older_alone t older f s a) in
        record {
          alone = λ y l. same? y s (λ q. ap (file_alone t older f) q ∙ a) (λ q. k.alone y (omega arith));
          ends_are = record {
            len = ap length g ∙ length-set ends s _ ∙ k.ends_are.len;
            ends_are = λ y l. ap (λ z. get_or z y 0) g
                ∙ put_more ends s (end_of ((unpack t).files f s).state ((unpack t).files f s).size) (λ z. end_of ((unpack t).files f z).state ((unpack t).files f z).size) (omega (arith, k.ends_are.len)) k.ends_are.ends_are refl y l;
          };
          lives_are = subst (LivesTo (unpack t).sets ((unpack t).files f) (s + 1)) (sym c) (lives_next (unpack t).sets ((unpack t).files f) s lives digit ls d used k.rest_lives k.lives_are);
          rest_ends = λ y l m. ap (λ z. get_or z y 0) g ∙ get_or-set_other ends s y _ 0 (λ q. omega arith) ∙ k.rest_ends y (omega arith) m;
          rest_lives = λ y l m. ap (λ z. is_one (bit z (place_of (unpack t).sets y))) c ∙ rest_next (unpack t).sets ((unpack t).files f) s lives digit ls d used k.rest_lives y l m;
        }

    -- LAW: a head that does not
    pub heads_refused : ok ≡ false → HeadsPassed older t f ends' lives' false
    heads_refused h = record {
      decided = sym (all_not 8 (file_alone t older f) s ls (sym decides ∙ h));
      ends_are = λ q. absurd (true≢false (sym q));
      lives_are = λ q. absurd (true≢false (sym q));
    }

-- LAW: the sets before set n, and the others are blank
module _ (older : Bool) (front files : List ℕ) (len : length front ≡ files_at) (f : ℕ) (ends : List ℕ) (lives s : ℕ) (k : HeadsTo older (front ++ files) f ends lives s) where
  pub heads_done : (n : ℕ) → BlankFrom files n → f < 16 → s ≡ n → HeadsPassed older (front ++ files) f ends lives true
  heads_done n b lf e = record {
    decided = sym (all_of 8 (file_alone (front ++ files) older f) (λ x l. test? (ltb x s)
        (λ q. k.alone x (ltb-true x s q))
        (λ q. blank_alone front files len n b f x lf (past x q) l older)));
    ends_are = λ h. record {
      len = k.ends_are.len;
      ends_are = λ x l. test? (ltb x s)
          (λ q. k.ends_are.ends_are x (ltb-true x s q))
          (λ q. k.rest_ends x (ltb-false x s q) l ∙ sym (blank_end front files len n b f x lf (past x q) l));
    };
    lives_are = λ h. record {
      live_at = λ x l. test? (ltb x s)
          (λ q. k.lives_are.live_at x (ltb-true x s q))
          (λ q. k.rest_lives x (ltb-false x s q) l ∙ sym (blank_dead front files len n b f x lf (past x q) l));
      only = k.lives_are.only;
    };
  }
    where
      past : (x : ℕ) → ltb x s ≡ false → n ≤ x
      past x q = let m = ltb-false x s q in omega arith

-- ---- all rules on the files of number f
module _ (older : Bool) (t : List ℕ) (f : ℕ) (ends : List ℕ) (lives : ℕ) (ok : Bool) (k : HeadsPassed older t f ends lives ok) where
  -- LAW: a head does not pass
  pub number_refused : ok ≡ false → false ≡ number_formed t older f
  unfolding number_formed
  number_refused h = sym (ap (λ b. all 8 (file_linked t f) && b) (sym k.decided ∙ h) ∙ and_false (all 8 (file_linked t f)))

  -- LAW: all pass, and the rules that concern several sets decide
  pub number_decided : (r : Bool) → ok ≡ true → r ≡ all 8 (file_linked t f) → r ≡ number_formed t older f
  unfolding number_formed
  number_decided r h e = e ∙ sym (ap (λ b. all 8 (file_linked t f) && b) (sym k.decided ∙ h) ∙ and_true (all 8 (file_linked t f)))

  -- LAW: then each file passes by itself
  pub all_alone : ok ≡ true → (s : ℕ) → s < 8 → file_alone t true f s ≡ true
  all_alone h s ls = older_alone t older f s (all_at 8 (file_alone t older f) (sym k.decided ∙ h) s ls)
