-- A page given is its rule: whose turns it is, copied, handed over or extra; the heir, and the block that moves to it. Pages that have not had their turn resolve to what they did. Assumes nothing.
use mathlib.Core.Bool.{◌&&◌, Bool, false, true, true≢false}
use mathlib.Core.List.Memᴰ
use mathlib.Core.List.{◌++◌, List, Memᴰ, ◌∷◌, []}
use mathlib.Core.Logic.{◌⊎◌, inl, inr, ⊎_elim}
use mathlib.Core.Path.{ap, refl, subst, sym, ◌∙◌, ◌≡◌}
use Prim.Native.Nat.{◌+◌, ◌<◌, suc, zero, ℕ, ◌≤◌}
use native.Mathlib.Numerals.{add-one}
use native.Mathlib.Omega.{arith}
use borrow.Author.Tests.{le-ltb, lt-ltb}
use Rattle.std.specs.Prelude.{Option, None, Some}
use Rattle.base.specs.Logic.{and_right, test?}
use Rattle.copying.proofs.Chains.{children_are, pages_turn, up_pages}
use Rattle.copying.proofs.Given.{give_none, give_shown, given_as, resolve_below}
use Rattle.copying.proofs.Kept.{entered}
use Rattle.copying.proofs.Steps.{going_start, step_as, step_sets, step_then}
use Rattle.copying.specs.Work.{Alone, FirstChild, Going, Ready, Step, ShownKept, give_both, give_chain, give_groups, giving_of, hand_if, handed_by, shown, touched_by, work}
use Rattle.copying.specs.Heirs.{TurnsFound, handed_or}
use Rattle.rules.proofs.Blocks.GoodWork.{not_stored}
use Rattle.rules.proofs.Steps.Handing.{some_self}
use Rattle.rules.proofs.Steps.StepFour.{each_append}
use Rattle.rules.proofs.Steps.WriterSteps.{resolve_here}
use Rattle.rules.proofs.Steps.OneStep.{TreeOk, put_entry_page, resolve_same}
use Rattle.rules.specs.Reading.{needs, resolve}
use Rattle.rules.specs.Rules.{Giving, Work, copied, each, extra, from, give, give_all, give_page, hand, hand_over, handed, put_entry}
use Rattle.rules.specs.State.{Entry, File, Files, SetRecord, Tables, Tree, chain, hole, is_stored, stored, tree_of, unmapped}
use Rattle.rules.specs.Storage.{real}
use Rattle.tables.specs.Calls.{pages_of}
use Rattle.tables.specs.OneReading.{block_fits}
use Rattle.tables.specs.Packed.{unpack}
use Rattle.tables.specs.Views.{Turns, put_entry_in}
use Rattle.tables.specs.declared.entries.Kept.{Kept}
use Rattle.copying.specs.declared.giving.Counts.{Counts}
use Rattle.copying.specs.declared.giving.How.{How}
use Rattle.copying.specs.declared.giving.How.TheVariants.{Copied, Extra, Handed}
use Rattle.copying.specs.declared.giving.InTurn.{InTurn}

-- ---- the block moves

-- LAW: two entries put
pub moved : {t t₁ t₂ : List ℕ} (f s q c : ℕ) (heir : Option ℕ) (e : Entry ℕ) → heir ≡ Some c → e ≡ ((unpack t).files f s).map q → Turns t t₁ (put_entry_in f c q e)
    → Turns t₁ t₂ (put_entry_in f s q hole) → Alone t t₂ f (hand_if (tree_of (unpack t).sets) s q heir)
unfolding hand_over
moved {t} f s q c heir e eh own u v p k re =
    let a = entered f c q e u re (λ x ee. re.sound.named s q x (sym own ∙ ee)) in
    step_as (hand_if (tree_of (unpack t).sets) s q heir)
    (λ h. rw eh (ap (λ (y : Entry ℕ). record {
      memory = (work (unpack t) (pages_of p) f h k).memory;
      files = put_entry (put_entry ((unpack t).files f) c q y) s q hole;
      pending = h;
      taken = k.taken;
      copies = k.copies;
      marks = k.marks;
    }) own))
    (step_then a (entered f s q hole v a.ready (λ x e. absurd (not_stored hole x refl e))))

-- an entry whose block is one of the bitmap
pub entry_fits : (e : Entry ℕ) → ((b : ℕ) → e ≡ stored b → b < 4096) → block_fits e
entry_fits unmapped h = tt
entry_fits hole h = tt
entry_fits (stored b) h = omega (arith, h b refl)

-- ---- the first child that needs the page

module _ (sets : ℕ → SetRecord) (s q : ℕ) where
  abbrev handing : ℕ → ℕ → Work real → Work real
  handing n c = hand real (tree_of sets) s q (chain sets n c)

  hand_end : (n c : ℕ) → 8 ≤ c → (w : Work real) → handing n c w ≡ w
  unfolding chain hand
  hand_end zero c l w = refl
  hand_end (suc n) c l w = rw (le-ltb c 8 l)

  hand_out : (n c : ℕ) → n ≡ 0 → (w : Work real) → handing n c w ≡ w
  unfolding chain hand
  hand_out n c e w = rw e

  -- the first of n sets, and the m behind it
  hand_skip : (n m c : ℕ) → n ≡ m + 1 → c < 8 → (w : Work real) → needs w.files c q ≡ false → handing n c w ≡ handing m (sets c).next_sibling w
  unfolding chain hand
  hand_skip n m c h l w d = rw (h, add-one, lt-ltb c 8 l, d)

  hand_take : (n m c : ℕ) → n ≡ m + 1 → c < 8 → (w : Work real) → needs w.files c q ≡ true
      → handing n c w ≡ hand_over real (tree_of sets) s q c (each (give real (tree_of sets) true s q) (chain sets m (sets c).next_sibling) w)
  unfolding chain hand
  hand_take n m c h l w d = rw (h, add-one, lt-ltb c 8 l, d)

-- the sets behind c in its chain are of it
rest_within : (sets : ℕ → SetRecord) (n m c : ℕ) → n ≡ m + 1 → c < 8 → (x : ℕ) → Memᴰ x (chain sets m (sets c).next_sibling) → Memᴰ x (chain sets n c)
unfolding chain
rest_within sets n m c h l x i = rw (h, add-one, lt-ltb c 8 l) (Memᴰ.tail i)

-- the search from set first on: no set before c needs page q of file f
pub record Searching (tb : Tables) (f q first n c : ℕ) : Type 0 where
  pub rule : (s : ℕ) (w : Work real) → w.files ≡ tb.files f → hand real (tree_of tb.sets) s q (chain tb.sets 8 first) w ≡ hand real (tree_of tb.sets) s q (chain tb.sets n c) w
  pub within : (x : ℕ) → Memᴰ x (chain tb.sets n c) → Memᴰ x (chain tb.sets 8 first)

module _ (tb : Tables) (f q first : ℕ) where
  none_within : (x : ℕ) → Memᴰ x (chain tb.sets 0 8) → Memᴰ x (chain tb.sets 8 first)
  unfolding chain
  none_within x m = absurd (Memᴰ.not-nil m)

  no_turns : (must : Bool) (s c : ℕ) (w : Work real) → each (give real (tree_of tb.sets) must s q) (chain tb.sets 0 c) w ≡ w
  unfolding chain each
  no_turns must s c w = refl

  -- LAW: the search starts
  pub search_start : Searching tb f q first 8 first
  search_start = record { rule = λ s w h. refl; within = λ x m. m }

  module _ (n c : ℕ) (x : Searching tb f q first n c) where
    -- LAW: no set needs it
    pub heir_none : (8 ≤ c) ⊎ (n ≡ 0) → TurnsFound tb f q first true (record { heir = None; next = 8; most = 0 })
    heir_none o = record {
      rule = λ must d s w h. x.rule s w h ∙ ⊎_elim (λ l. hand_end tb.sets s q n c l w) (λ z. hand_out tb.sets s q n c z w) o ∙ sym (no_turns must s 8 w);
      within = none_within;
      few = omega arith;
      heir_if_over = λ d i. absurd cc;
    }

    module _ (d m : ℕ) (pos : n ≡ m + 1) (l : c < 8) (e : d ≡ (tb.sets c).next_sibling) where
      -- LAW: set c is the first that needs it
      pub heir_first : n ≤ 8 → needs (tb.files f) c q ≡ true → TurnsFound tb f q first true (record { heir = Some c; next = d; most = m })
      heir_first few nd = subst (λ i. TurnsFound tb f q first true (record { heir = Some c; next = i; most = m })) (sym e) (record {
        rule = λ must d s w h. x.rule s w h ∙ hand_take tb.sets s q n m c pos l w (ap (λ (y : Files ℕ). needs y c q) h ∙ nd)
            ∙ ap (λ (b : Bool). hand_over real (tree_of tb.sets) s q c (each (give real (tree_of tb.sets) b s q) (chain tb.sets m (tb.sets c).next_sibling) w)) (sym (d refl));
        within = λ y i. x.within y (rest_within tb.sets n m c pos l y i);
        few = omega arith;
        heir_if_over = λ y i. let z : c ≡ y = cc in (omega arith, refl);
      })

      -- LAW: set c does not need it
      pub search_next : needs (tb.files f) c q ≡ false → Searching tb f q first m d
      search_next un = subst (λ i. Searching tb f q first m i) (sym e) (record {
        rule = λ s w h. x.rule s w h ∙ hand_skip tb.sets s q n m c pos l w (ap (λ (y : Files ℕ). needs y c q) h ∙ un);
        within = λ y i. x.within y (rest_within tb.sets n m c pos l y i);
      })

-- LAW: nothing is handed over
pub turns_all : (tb : Tables) (f q c : ℕ) (over : Bool) → over ≡ false → TurnsFound tb f q c over (record { heir = None; next = c; most = 8 })
turns_all tb f q c over g = record {
  rule = λ must d s w h. ap (λ (b : Bool). handed_or b must (tree_of tb.sets) s q (chain tb.sets 8 c) w) g;
  within = λ x m. m;
  few = omega arith;
  heir_if_over = λ d i. absurd cc;
}

-- LAW: it is
pub turns_heir : (tb : Tables) (f q c : ℕ) (over : Bool) (r : InTurn) → over ≡ true → TurnsFound tb f q c true r → TurnsFound tb f q c over r
turns_heir tb f q c over r g x = subst (λ (b : Bool). TurnsFound tb f q c b r) (sym g) x

-- ---- a page

-- LAW: the turns of children of set s for what a page of it resolves to are the rule's
chain_given : {t p t' p' : List ℕ} {f : ℕ} {k k' : Counts} (must : Bool) (s q n c first : ℕ) (e : Entry ℕ) → Ready t p f k → e ≡ shown t f s q → FirstChild (unpack t).sets s first
    → ((x : ℕ) → Memᴰ x (chain (unpack t).sets n c) → Memᴰ x (chain (unpack t).sets 8 first))
    → Step t p t' p' f k k' (give_chain (unpack t).sets must e q n c) → Step t p t' p' f k k' (each (give real (tree_of (unpack t).sets) must s q) (chain (unpack t).sets n c))
chain_given {t} {p} {t'} {p'} {f} {k} must s q n c first e re ee ch within x =
    step_as (each (give real (tree_of (unpack t).sets) must s q) (chain (unpack t).sets n c))
    (λ h. given_as (tree_of (unpack t).sets) must re.sound.tree s q e (chain (unpack t).sets n c)
    (λ y m. subst (Memᴰ y) (sym (children_are (unpack t).sets s first ch)) (within y m)) (work (unpack t) (pages_of p) f h k) (sym ee)) x

-- how a page is given, by whether it is handed over and touched
page_how : (tr : Tree) (how : How) (s q : ℕ) (w : Work real) → give_page real tr (giving_of how) s q w ≡ handed_or (handed_by how && is_stored ((w.files s).map q)) (touched_by how) tr s q (tr.children s) w
unfolding give_page
page_how tr Copied s q w = refl
page_how tr Handed s q w = refl
page_how tr Extra s q w = refl

over_touched : (how : How) (b : Bool) → (handed_by how && b) ≡ true → touched_by how ≡ true
over_touched Copied b h = refl
over_touched Handed b h = refl
over_touched Extra b h = absurd (true≢false (sym h))

module _ {t p t₁ p₁ : List ℕ} {f : ℕ} {k k₁ : Counts} (must : Bool) (s q first : ℕ) (e : Entry ℕ) (over : Bool) (r : InTurn) (re : Ready t p f k) (ch : FirstChild (unpack t).sets s first) (ee : e ≡ shown t f s q)
    (found : TurnsFound (unpack t) f q first over r) (x : Step t p t₁ p₁ f k k₁ (give_chain (unpack t).sets must e q r.most r.next)) where
  turns_done : Step t p t₁ p₁ f k k₁ (each (give real (tree_of (unpack t).sets) must s q) (chain (unpack t).sets r.most r.next))
  turns_done = chain_given must s q r.most r.next first e re ee ch found.within x

  -- LAW: they leave the map of set s
  pub map_left : (y : ℕ) → ((unpack t₁).files f s).map y ≡ ((unpack t).files f s).map y
  map_left y =
      ap (λ (w : Work real). (w.files s).map y) (turns_done.step.does (λ i. unmapped))
      ∙ ap (λ (z : File ℕ). z.map y) (some_self real (tree_of (unpack t).sets) re.sound.tree must s q (chain (unpack t).sets r.most r.next)
      (λ z m. subst (Memᴰ z) (sym (children_are (unpack t).sets s first ch)) (found.within z m)) (work (unpack t) (pages_of p) f (λ i. unmapped) k))

  -- LAW: a page's turns, and then the block moves
  pub page_given : {t₂ : List ℕ} (how : How) → over ≡ (handed_by how && is_stored (((unpack t).files f s).map q)) → must ≡ touched_by how
      → Alone t₁ t₂ f (hand_if (tree_of (unpack t₁).sets) s q r.heir) → Step t p t₂ p₁ f k k₁ (give_page real (tree_of (unpack t).sets) (giving_of how) s q)
  page_given {t₂} how eg em a =
      let tr = tree_of (unpack t).sets in
      let z : Step t₁ p₁ t₂ p₁ f k₁ k₁ (hand_if tr s q r.heir) = subst (λ (i : ℕ → SetRecord). Step t₁ p₁ t₂ p₁ f k₁ k₁ (hand_if (tree_of i) s q r.heir)) (step_sets x) (a p₁ k₁ x.ready) in
      step_as (give_page real tr (giving_of how) s q)
      (λ h. let w = work (unpack t) (pages_of p) f h k in
      sym (found.rule must (λ o. em ∙ over_touched how _ (sym eg ∙ o)) s w refl) ∙ ap (λ (cs : List ℕ). handed_or over must tr s q cs w) (sym (children_are (unpack t).sets s first ch))
      ∙ (λ i. handed_or (eg i) (em i) tr s q (tr.children s) w) ∙ sym (page_how tr how s q w)) (step_then turns_done z)

-- LAW: a page that the set's own map stores resolves to that
own_shown : (t : List ℕ) (f s q : ℕ) → is_stored (((unpack t).files f s).map q) ≡ true → shown t f s q ≡ ((unpack t).files f s).map q
own_shown t f s q h = go (((unpack t).files f s).map q) refl h
  where
    go : (x : Entry ℕ) → ((unpack t).files f s).map q ≡ x → is_stored x ≡ true → shown t f s q ≡ x
    go unmapped e i = absurd (true≢false (sym i))
    go hole e i = absurd (true≢false (sym i))
    go (stored b) e i = resolve_here (tree_of (unpack t).sets) ((unpack t).files f) s q (stored b) e refl

-- LAW: so an heir takes over what the page resolves to
pub heir_own : (t : List ℕ) (f s q c : ℕ) (e : Entry ℕ) (over hands : Bool) (r : InTurn) → over ≡ (hands && is_stored (((unpack t).files f s).map q)) → TurnsFound (unpack t) f q c over r → e ≡ shown t f s q
    → (d : ℕ) → r.heir ≡ Some d → (d < 8) × (e ≡ ((unpack t).files f s).map q)
heir_own t f s q c e over hands r eg found ee d i =
    let x = found.heir_if_over d i in
    (x.0, ee ∙ own_shown t f s q (and_right hands (is_stored (((unpack t).files f s).map q)) (sym eg ∙ x.1)))

-- LAW: a page resolves to a block of the bitmap
pub shown_below : {t p : List ℕ} {f : ℕ} {k : Counts} {e : Entry ℕ} (s q : ℕ) → Ready t p f k → e ≡ shown t f s q → (b : ℕ) → e ≡ stored b → b < 4096
shown_below s q re ee b h = let x = resolve_below re s q ee b h in omega (arith, x, re.sound.header.most)

-- ---- handing page q leaves the others of set s

module _ (tr : Tree) (ok : TreeOk tr) (s q x : ℕ) (apart : q ≡ x → ⊥) where
  given_seen : (must : Bool) (cs : List ℕ) → ((c : ℕ) → Memᴰ c cs → Memᴰ c (tr.children s)) → (w : Work real)
      → resolve tr (each (give real tr must s q) cs w).files s x ≡ resolve tr w.files s x
  unfolding each
  given_seen must [] m w = refl
  given_seen must (c ∷ cs) m w = given_seen must cs (λ y i. m y (Memᴰ.tail i)) (give real tr must s q c w) ∙ give_shown tr must c ok s q (m c (Memᴰ.head refl)) w x

  put_seen : (files : Files ℕ) (c : ℕ) (e : Entry ℕ) → resolve tr (put_entry files c q e) s x ≡ resolve tr files s x
  put_seen files c e = resolve_same tr files (put_entry files c q e) x (λ y. put_entry_page files c q e y x apart) s

  over_seen : (c : ℕ) (w : Work real) → resolve tr (hand_over real tr s q c w).files s x ≡ resolve tr w.files s x
  unfolding hand_over
  over_seen c w = put_seen (put_entry w.files c q ((w.files s).map q)) s hole ∙ put_seen w.files c ((w.files s).map q)

  hand_seen : (cs : List ℕ) → ((c : ℕ) → Memᴰ c cs → Memᴰ c (tr.children s)) → (w : Work real) → resolve tr (hand real tr s q cs w).files s x ≡ resolve tr w.files s x
  unfolding hand
  hand_seen [] m w = refl
  hand_seen (c ∷ cs) m w =
      let n : (y : ℕ) → Memᴰ y cs → Memᴰ y (tr.children s) = λ y i. m y (Memᴰ.tail i) in
      test? (needs w.files c q)
      (λ d. rw d (over_seen c (each (give real tr true s q) cs w) ∙ given_seen true cs n w))
      (λ d. rw d (hand_seen cs n w))

  -- LAW: page x of set s resolves to what it did
  page_seen : (how : Giving) (w : Work real) → resolve tr (give_page real tr how s q w).files s x ≡ resolve tr w.files s x
  unfolding give_page
  page_seen copied w = given_seen true (tr.children s) (λ y i. i) w
  page_seen extra w = given_seen false (tr.children s) (λ y i. i) w
  page_seen handed w = test? (is_stored ((w.files s).map q)) (λ d. rw d (hand_seen (tr.children s) (λ y i. i) w)) (λ d. rw d (given_seen true (tr.children s) (λ y i. i) w))

-- ---- the pages of set s

abbrev pub giving_page : Giving → ℕ → (ℕ → SetRecord) → ℕ → Work real → Work real
giving_page how s sets = give_page real (tree_of sets) how s

-- what pages from q on resolve to is kept
pub record PagesGoing (t₀ p₀ t p : List ℕ) (l : List Kept) (f : ℕ) (k₀ k : Counts) (how : Giving) (s first m q n : ℕ) : Type 0 where
  pub going : Going t₀ p₀ t p f k₀ k (give_all real (tree_of (unpack t₀).sets) how s (from first m)) (up_pages (giving_page how s) (unpack t₀).sets q n)
  pub kept : ShownKept l t f s q n

pub pages_start : {t p : List ℕ} {l : List Kept} {f : ℕ} {k : Counts} (how : Giving) (s first m : ℕ) → Ready t p f k → ShownKept l t f s first m → PagesGoing t p t p l f k k how s first m first m
unfolding give_all
pages_start {t} how s first m re h = record { going = going_start (give_all real (tree_of (unpack t).sets) how s (from first m)) re; kept = h }

-- LAW: a page's turn; y is the page's number
pub pages_next : {t₀ p₀ t p t' p' : List ℕ} {l : List Kept} {f : ℕ} {k₀ k k' : Counts} (how : Giving) (s first m q n r y : ℕ) → PagesGoing t₀ p₀ t p l f k₀ k how s first m q n → n ≡ r + 1 → y ≡ q
    → Step t p t' p' f k k' (give_page real (tree_of (unpack t).sets) how s y) → PagesGoing t₀ p₀ t' p' l f k₀ k' how s first m (q + 1) r
pages_next {t₀} {p₀} {t} {p} {t'} {p'} {l} {f} {k₀} {k} {k'} how s first m q n r y g pos e a = record {
  going = pages_turn (giving_page how s) q n r y g.going pos e a;
  kept = λ x lo hi.
      let w = work (unpack t) (pages_of p) f (λ i. unmapped) k in
      let tr = tree_of (unpack t).sets in
      let same = page_seen tr g.going.ready.sound.tree s y x (λ d. omega (arith, e, d, lo)) how w in
      let seen : shown t' f s x ≡ shown t f s x = (λ i. resolve (tree_of (step_sets a i)) (a.step.does (λ i. unmapped) i).files s x) ∙ same in
      g.kept x (omega (arith, lo)) (omega (arith, hi, pos)) ∙ sym seen;
}

-- ---- pages copied, and then pages handed over

-- LAW: giving the pages from q on, n of them, leaves what other pages resolve to
pages_seen : (tr : Tree) → TreeOk tr → (how : Giving) (s q n x : ℕ) → (x < q) ⊎ (q + n ≤ x) → (w : Work real) → resolve tr (give_all real tr how s (from q n) w).files s x ≡ resolve tr w.files s x
unfolding give_all each from
pages_seen tr ok how s q zero x h w = refl
pages_seen tr ok how s q (suc n) x h w =
    pages_seen tr ok how s (suc q) n x (⊎_elim (λ l. inl (omega arith)) (λ l. inr (omega arith)) h) (give_page real tr how s q w)
    ∙ page_seen tr ok s q x (λ e. ⊎_elim (λ l. omega arith) (λ l. omega arith) h) how w

-- LAW: so what they resolve to is kept
pub kept_apart : {t p t' p' : List ℕ} {f : ℕ} {k k' : Counts} (l : List Kept) (how : Giving) (s first m q n : ℕ) → (q + n ≤ first) ⊎ (first + m ≤ q) → Ready t p f k → ShownKept l t f s q n
    → Step t p t' p' f k k' (give_all real (tree_of (unpack t).sets) how s (from first m)) → ShownKept l t' f s q n
kept_apart {t} {p} {t'} {p'} {f} {k} l how s first m q n o re h a x lo hi =
    let w = work (unpack t) (pages_of p) f (λ i. unmapped) k in
    let same = pages_seen (tree_of (unpack t).sets) re.sound.tree how s first m x (⊎_elim (λ z. inl (omega (arith, hi))) (λ z. inr (omega (arith, lo))) o) w in
    let seen : shown t' f s x ≡ shown t f s x = (λ i. resolve (tree_of (step_sets a i)) (a.step.does (λ i. unmapped) i).files s x) ∙ same in
    h x lo hi ∙ sym seen

-- LAW: the two, one after the other
pub both_given : {t p t₁ p₁ t₂ p₂ : List ℕ} {f : ℕ} {k k₁ k₂ : Counts} (s : ℕ) (ps ds : List ℕ) → Step t p t₁ p₁ f k k₁ (give_all real (tree_of (unpack t).sets) copied s ps)
    → Step t₁ p₁ t₂ p₂ f k₁ k₂ (give_all real (tree_of (unpack t₁).sets) handed s ds) → Step t p t₂ p₂ f k k₂ (give_both (unpack t).sets s ps ds)
both_given {t} {p} {t₁} {p₁} {t₂} {p₂} {f} {k} {k₁} {k₂} s ps ds a b =
    step_then a (subst (λ (i : ℕ → SetRecord). Step t₁ p₁ t₂ p₂ f k₁ k₂ (give_all real (tree_of i) handed s ds)) (step_sets a) b)

-- LAW: set s has no child
pub both_none : {t p : List ℕ} {f : ℕ} {k : Counts} (s c : ℕ) (ps ds : List ℕ) → Ready t p f k → FirstChild (unpack t).sets s c → 8 ≤ c → Step t p t p f k k (give_both (unpack t).sets s ps ds)
both_none s c ps ds re h l = both_given s ps ds (give_none copied s c ps re h l) (give_none handed s c ds re h l)

-- ---- pages copied, and then the extra pages

-- LAW: one list of extra pages after another
extra_both : (tr : Tree) (s : ℕ) (es fs : List ℕ) (w : Work real) → give_all real tr extra s fs (give_all real tr extra s es w) ≡ give_all real tr extra s (es ++ fs) w
unfolding give_all
extra_both tr s es fs w = sym (each_append (give_page real tr extra s) es fs w)

-- LAW: the three, one after the other
pub groups_given : {t p t₁ p₁ t₂ p₂ t₃ p₃ : List ℕ} {f : ℕ} {k k₁ k₂ k₃ : Counts} (s : ℕ) (ps es fs : List ℕ) → Step t p t₁ p₁ f k k₁ (give_all real (tree_of (unpack t).sets) copied s ps)
    → Step t₁ p₁ t₂ p₂ f k₁ k₂ (give_all real (tree_of (unpack t₁).sets) extra s es) → Step t₂ p₂ t₃ p₃ f k₂ k₃ (give_all real (tree_of (unpack t₂).sets) extra s fs)
    → Step t p t₃ p₃ f k k₃ (give_groups (unpack t).sets s ps (es ++ fs))
groups_given {t} {p} {t₁} {p₁} {t₂} {p₂} {t₃} {p₃} {f} {k} {k₁} {k₂} {k₃} s ps es fs a b c =
    let tr = tree_of (unpack t).sets in
    let b' : Step t₁ p₁ t₂ p₂ f k₁ k₂ (give_all real tr extra s es) = subst (λ (i : ℕ → SetRecord). Step t₁ p₁ t₂ p₂ f k₁ k₂ (give_all real (tree_of i) extra s es)) (step_sets a) b in
    let ab = step_then a b' in
    let c' : Step t₂ p₂ t₃ p₃ f k₂ k₃ (give_all real tr extra s fs) = subst (λ (i : ℕ → SetRecord). Step t₂ p₂ t₃ p₃ f k₂ k₃ (give_all real (tree_of i) extra s fs)) (step_sets ab) c in
    step_as (give_groups (unpack t).sets s ps (es ++ fs)) (λ h. extra_both tr s es fs (give_all real tr copied s ps (work (unpack t) (pages_of p) f h k))) (step_then ab c')

-- LAW: set s has no child
pub groups_none : {t p : List ℕ} {f : ℕ} {k : Counts} (s c : ℕ) (ps es fs : List ℕ) → Ready t p f k → FirstChild (unpack t).sets s c → 8 ≤ c
    → Step t p t p f k k (give_groups (unpack t).sets s ps (es ++ fs))
groups_none s c ps es fs re h l = groups_given s ps es fs (give_none copied s c ps re h l) (give_none extra s c es re h l) (give_none extra s c fs re h l)
