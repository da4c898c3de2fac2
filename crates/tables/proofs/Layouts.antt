-- The packing law for each layout: what is read from a written word is what was written, and a word with zero fields zero is what is written of what is read.
-- Each is the law of any widths, split-join or join-split, at the widths of the layout. Assumes nothing.
use mathlib.Core.Bool.{◌&&◌, true, ◌||◌}
use mathlib.Core.List.{List, ◌∷◌, []}
use mathlib.Core.Path.{ap, refl, sym, ◌∙◌, ◌≡◌}
use Prim.Native.Nat.{◌<◌, suc, zero, ℕ}
use native.Mathlib.Omega.{arith}
use lib.Dec.{eqb, ltb}
use lib.ListN.{get_or}
use borrow.Author.Tests.{eqb-true, ltb-true}
use Rattle.base.specs.Logic.{and_left, digit}
use Rattle.packing.specs.Bitmap.{digit_lt, digit_one, is_one, one_digit}
use Rattle.packing.specs.Fields.{Fit, get_field, join, join_lt, join_split, split_fit, split_join}
use Rattle.rules.specs.State.{Entry, SetRecord, State, Term, absent, hole, marked, own, stored, unmapped, virgin}
use Rattle.rules.specs.Terms.{with_term}
use Rattle.tables.specs.Layout.{block_number, entry_of, entry_widths, head_widths, header_widths, kind_number, read_blocks, read_entry, read_next, read_set, read_size, read_state, read_term, set_widths, state_number, state_of, term_widths, write_entry, write_head, write_header, write_set, write_term}
use Rattle.tables.specs.OneReading.{SetFits, block_fits}
use Rattle.tables.specs.Packed.{entry_formed}

-- LAW: a field of a word that holds values that fit
field_join : (ws vs : List ℕ) (i : ℕ) → Fit ws vs → get_field ws (join ws vs) i ≡ get_or vs i 0
field_join ws vs i f = ap (λ (l : List ℕ). get_or l i 0) (split_join ws vs f)

-- ---- the numbers of kinds and states

state_of_number : (l : State) → state_of (state_number l) ≡ l
state_of_number absent = refl
state_of_number own = refl
state_of_number virgin = refl
state_of_number marked = refl

state_number_lt : (l : State) → state_number l < 4
state_number_lt absent = omega arith
state_number_lt own = omega arith
state_number_lt virgin = omega arith
state_number_lt marked = omega arith

number_of_state : (n : ℕ) → n < 4 → state_number (state_of n) ≡ n
number_of_state zero h = refl
number_of_state (suc zero) h = refl
number_of_state (suc (suc zero)) h = refl
number_of_state (suc (suc (suc zero))) h = refl
number_of_state (suc (suc (suc (suc n)))) h = absurd (omega arith)

-- ---- an entry

abbrev entry_values : Entry ℕ → List ℕ
entry_values e = kind_number e ∷ block_number e ∷ []

entry_fit : (e : Entry ℕ) → block_fits e → Fit entry_widths (entry_values e)
entry_fit unmapped h = omega arith
entry_fit hole h = omega arith
entry_fit (stored b) h = omega arith

entry_of_numbers : (e : Entry ℕ) → entry_of (kind_number e) (block_number e) ≡ e
entry_of_numbers unmapped = refl
entry_of_numbers hole = refl
entry_of_numbers (stored b) = refl

pub write_entry_lt : (e : Entry ℕ) → block_fits e → write_entry e < 65536
unfolding write_entry
write_entry_lt e h = join_lt entry_widths (entry_values e) (entry_fit e h)

-- LAW: the entry read from a written entry
pub read_write_entry : (e : Entry ℕ) → block_fits e → read_entry (write_entry e) ≡ e
unfolding read_entry write_entry
read_write_entry e h =
    ap (λ (l : List ℕ). entry_of (get_or l 0 0) (get_or l 1 0)) (split_join entry_widths (entry_values e) (entry_fit e h)) ∙ entry_of_numbers e

pub entry_formed_law : (t : List ℕ) (e : Entry ℕ) → block_fits e → entry_formed t (write_entry e) ≡ true
unfolding write_entry
entry_formed_law t e h =
    ap (λ (l : List ℕ). ltb (get_or l 0 0) 3 && (eqb (get_or l 0 0) 2 || eqb (get_or l 1 0) 0)) (split_join entry_widths (entry_values e) (entry_fit e h)) ∙ formed e
  where
    formed : (e : Entry ℕ) → (ltb (kind_number e) 3 && (eqb (kind_number e) 2 || eqb (block_number e) 0)) ≡ true
    formed unmapped = refl
    formed hole = refl
    formed (stored b) = refl

pub read_entry_fits : (w : ℕ) → w < 65536 → block_fits (read_entry w)
unfolding read_entry
read_entry_fits w h = go (get_field entry_widths w 0) (get_field entry_widths w 1) (split_fit entry_widths w h).1.0
  where
    go : (k b : ℕ) → b < 16384 → block_fits (entry_of k b)
    go zero b h = tt
    go (suc zero) b h = tt
    go (suc (suc k)) b h = h

numbers_of_entry : (k b : ℕ) → (ltb k 3 && (eqb k 2 || eqb b 0)) ≡ true → (kind_number (entry_of k b) ≡ k) × (block_number (entry_of k b) ≡ b)
numbers_of_entry zero b h = (refl, sym (eqb-true b 0 h))
numbers_of_entry (suc zero) b h = (refl, sym (eqb-true b 0 h))
numbers_of_entry (suc (suc zero)) b h = (refl, refl)
numbers_of_entry (suc (suc (suc k))) b h =
    absurd (omega (arith, ltb-true (suc (suc (suc k))) 3 (and_left (ltb (suc (suc (suc k))) 3) (eqb (suc (suc (suc k))) 2 || eqb b 0) h)))

-- LAW: the word of the entry read from a well formed word
pub write_read_entry : (t : List ℕ) (w : ℕ) → w < 65536 → entry_formed t w ≡ true → write_entry (read_entry w) ≡ w
unfolding read_entry write_entry
write_read_entry t w h e =
    let q = numbers_of_entry (get_field entry_widths w 0) (get_field entry_widths w 1) e in
    (λ i. join entry_widths (q.0 i ∷ q.1 i ∷ [])) ∙ join_split entry_widths w h

-- ---- the state and size of a file

abbrev head_values : State → ℕ → List ℕ
head_values l n = state_number l ∷ n ∷ 0 ∷ []

head_fit : (l : State) (n : ℕ) → n < 65536 → Fit head_widths (head_values l n)
head_fit l n h = let k = state_number_lt l in omega arith

pub write_head_lt : (l : State) (n : ℕ) → n < 65536 → write_head l n < 4294967296
unfolding write_head
write_head_lt l n h = join_lt head_widths (head_values l n) (head_fit l n h)

-- LAW: the state and the size read from a written head
pub read_write_state : (l : State) (n : ℕ) → n < 65536 → read_state (write_head l n) ≡ l
unfolding read_state write_head
read_write_state l n h = ap state_of (field_join head_widths (head_values l n) 0 (head_fit l n h)) ∙ state_of_number l

pub read_write_size : (l : State) (n : ℕ) → n < 65536 → read_size (write_head l n) ≡ n
unfolding read_size write_head
read_write_size l n h = field_join head_widths (head_values l n) 1 (head_fit l n h)

pub head_zero_field : (l : State) (n : ℕ) → n < 65536 → get_field head_widths (write_head l n) 2 ≡ 0
unfolding write_head
head_zero_field l n h = field_join head_widths (head_values l n) 2 (head_fit l n h)

pub read_size_fits : (w : ℕ) → w < 4294967296 → read_size w < 65536
unfolding read_size
read_size_fits w h = (split_fit head_widths w h).1.0

-- LAW: the word of the head read from a word with its zero field 0
pub write_read_head : (w : ℕ) → w < 4294967296 → get_field head_widths w 2 ≡ 0 → write_head (read_state w) (read_size w) ≡ w
unfolding read_state read_size write_head
write_read_head w h z =
    let q = number_of_state (get_field head_widths w 0) (split_fit head_widths w h).0 in
    (λ i. join head_widths (q i ∷ get_field head_widths w 1 ∷ sym z i ∷ [])) ∙ join_split head_widths w h

-- ---- a set record

abbrev set_values : SetRecord → List ℕ
set_values r = digit r.used ∷ digit r.writeable ∷ r.level ∷ r.parent ∷ r.first_child ∷ r.next_sibling ∷ 0 ∷ []

set_fit : (r : SetRecord) → SetFits r → Fit set_widths (set_values r)
set_fit r h =
    let a = digit_lt r.used in
    let b = digit_lt r.writeable in
    omega arith

pub write_set_lt : (r : SetRecord) → SetFits r → write_set r < 16777216
unfolding write_set
write_set_lt r h = join_lt set_widths (set_values r) (set_fit r h)

abbrev term_values : Term → List ℕ
term_values x = x.first_day ∷ x.end_day ∷ []

-- the days of a term fit
abbrev pub TermFits : Term → Type 0
TermFits x = (x.first_day < 65536) × (x.end_day < 65536)

term_fit : (x : Term) → TermFits x → Fit term_widths (term_values x)
term_fit x h = omega arith

pub write_term_lt : (x : Term) → TermFits x → write_term x < 4294967296
unfolding write_term
write_term_lt x h = join_lt term_widths (term_values x) (term_fit x h)

-- LAW: the term read from a written term
pub read_write_term : (x : Term) → TermFits x → read_term (write_term x) ≡ x
unfolding read_term write_term
read_write_term x h = ap (λ (l : List ℕ). record { first_day = get_or l 0 0; end_day = get_or l 1 0 }) (split_join term_widths (term_values x) (term_fit x h))

-- LAW: the word of the term read from a word
pub write_read_term : (w : ℕ) → w < 4294967296 → write_term (read_term w) ≡ w
unfolding read_term write_term
write_read_term w h = join_split term_widths w h

-- LAW: the record read from a written record and any word of a term
pub read_write_tree : (r : SetRecord) (v : ℕ) → SetFits r → read_set (write_set r) v ≡ with_term r (read_term v)
unfolding read_set write_set
read_write_tree r v h =
    ap (λ (l : List ℕ). record {
      used = is_one (get_or l 0 0);
      writeable = is_one (get_or l 1 0);
      level = get_or l 2 0;
      parent = get_or l 3 0;
      first_child = get_or l 4 0;
      next_sibling = get_or l 5 0;
      term = read_term v;
    })
    (split_join set_widths (set_values r) (set_fit r h))
    ∙ (λ i. record {
      used = one_digit r.used i;
      writeable = one_digit r.writeable i;
      level = r.level;
      parent = r.parent;
      first_child = r.first_child;
      next_sibling = r.next_sibling;
      term = read_term v;
    })

-- LAW: the record read from a written record
pub read_write_set : (r : SetRecord) → SetFits r → read_set (write_set r) (write_term r.term) ≡ r
read_write_set r h = read_write_tree r (write_term r.term) h ∙ ap (with_term r) (read_write_term r.term (h.first_fits, h.end_fits))

-- the term of a record that is read
pub read_set_term : (w v : ℕ) → (read_set w v).term ≡ read_term v
unfolding read_set
read_set_term w v = refl

-- another word of the term
pub read_set_with : (w v v' : ℕ) → read_set w v' ≡ with_term (read_set w v) (read_term v')
unfolding read_set
read_set_with w v v' = refl

pub set_zero_field : (r : SetRecord) → SetFits r → get_field set_widths (write_set r) 6 ≡ 0
unfolding write_set
set_zero_field r h = field_join set_widths (set_values r) 6 (set_fit r h)

pub read_set_fits : (w v : ℕ) → w < 16777216 → v < 4294967296 → SetFits (read_set w v)
unfolding read_set read_term
read_set_fits w v h k =
    let fit = split_fit set_widths w h in
    let days = split_fit term_widths v k in
    record {
      level_fits = fit.1.1.0;
      parent_fits = fit.1.1.1.0;
      child_fits = fit.1.1.1.1.0;
      sibling_fits = fit.1.1.1.1.1.0;
      first_fits = days.0;
      end_fits = days.1.0;
    }

-- LAW: the word of the record read from a word with its zero field 0
pub write_read_set : (w v : ℕ) → w < 16777216 → get_field set_widths w 6 ≡ 0 → write_set (read_set w v) ≡ w
unfolding read_set write_set
write_read_set w v h z =
    let fit = split_fit set_widths w h in
    let u = digit_one (get_field set_widths w 0) fit.0 in
    let v = digit_one (get_field set_widths w 1) fit.1.0 in
    (λ i. join set_widths (u i ∷ v i ∷ get_field set_widths w 2 ∷ get_field set_widths w 3 ∷ get_field set_widths w 4 ∷ get_field set_widths w 5 ∷ sym z i ∷ []))
    ∙ join_split set_widths w h

-- ---- the header

header_fit : (b n : ℕ) → b < 8192 → n < 4096 → Fit header_widths (b ∷ n ∷ 0 ∷ [])
header_fit b n hb hn = omega arith

pub write_header_lt : (b n : ℕ) → b < 8192 → n < 4096 → write_header b n < 4294967296
unfolding write_header
write_header_lt b n hb hn = join_lt header_widths (b ∷ n ∷ 0 ∷ []) (header_fit b n hb hn)

-- LAW: the block count and the next start read from a written header
pub read_write_blocks : (b n : ℕ) → b < 8192 → n < 4096 → read_blocks (write_header b n) ≡ b
unfolding read_blocks write_header
read_write_blocks b n hb hn = field_join header_widths (b ∷ n ∷ 0 ∷ []) 0 (header_fit b n hb hn)

pub read_write_next : (b n : ℕ) → b < 8192 → n < 4096 → read_next (write_header b n) ≡ n
unfolding read_next write_header
read_write_next b n hb hn = field_join header_widths (b ∷ n ∷ 0 ∷ []) 1 (header_fit b n hb hn)

pub header_zero_field : (b n : ℕ) → b < 8192 → n < 4096 → get_field header_widths (write_header b n) 2 ≡ 0
unfolding write_header
header_zero_field b n hb hn = field_join header_widths (b ∷ n ∷ 0 ∷ []) 2 (header_fit b n hb hn)

pub read_blocks_fits : (w : ℕ) → w < 4294967296 → read_blocks w < 8192
unfolding read_blocks
read_blocks_fits w h = (split_fit header_widths w h).0

pub read_next_fits : (w : ℕ) → w < 4294967296 → read_next w < 4096
unfolding read_next
read_next_fits w h = (split_fit header_widths w h).1.0

-- LAW: the word of the header read from a word with its zero field 0
pub write_read_header : (w : ℕ) → w < 4294967296 → get_field header_widths w 2 ≡ 0 → write_header (read_blocks w) (read_next w) ≡ w
unfolding read_blocks read_next write_header
write_read_header w h z = (λ i. join header_widths (get_field header_widths w 0 ∷ get_field header_widths w 1 ∷ sym z i ∷ [])) ∙ join_split header_widths w h
