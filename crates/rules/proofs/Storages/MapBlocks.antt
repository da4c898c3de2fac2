-- The rules see only kinds: every rule on the files commutes with a map of the blocks. Assumes nothing.
use mathlib.Core.Bool.{Bool, cond, false, true}
use mathlib.Core.Path.{ap, fun_ext, refl, sym, ◌∙◌, ◌≡◌}
use Prim.Native.Nat.{suc, zero, ℕ}
use Rattle.base.specs.Logic.{pick}
use Rattle.base.specs.Update.{upd, upd_map}
use Rattle.rules.specs.Reading.{dependent, depends_on, looks, looks_up, needs, reaches, resolve, shown_entry, shown_size, size_by_reading, some_unmapped, walk}
use Rattle.rules.specs.Rules.{mark_down, marked_file, put_entry, settle_as, settle_file}
use Rattle.rules.specs.State.{Entry, File, Files, State, Tree, absent, hole, is_stored, is_unmapped, marked, own, stored, unmapped, virgin}

module _ {K L : Type 0} (f : K → L) where
  abbrev pub map_entry : Entry K → Entry L
  map_entry unmapped = unmapped
  map_entry hole = hole
  map_entry (stored b) = stored (f b)

  abbrev pub map_file : File K → File L
  map_file x = record { state = x.state; size = x.size; map = λ p. map_entry (x.map p) }

  abbrev pub map_files : Files K → Files L
  map_files files s = map_file (files s)

  map_unmapped : (e : Entry K) → is_unmapped (map_entry e) ≡ is_unmapped e
  map_unmapped unmapped = refl
  map_unmapped hole = refl
  map_unmapped (stored b) = refl

  pub map_stored : (e : Entry K) → is_stored (map_entry e) ≡ is_stored e
  map_stored unmapped = refl
  map_stored hole = refl
  map_stored (stored b) = refl

  walk_map : (parent : ℕ → ℕ) (p n : ℕ) (files : Files K) (s : ℕ) →
      walk parent (λ (x : File L). shown_entry (x.map p)) hole n (map_files files) s ≡ map_entry (walk parent (λ (x : File K). shown_entry (x.map p)) hole n files s)
  unfolding walk
  walk_map parent p zero files s = go ((files s).map p)
    where
      go : (e : Entry K) → pick (shown_entry (map_entry e)) hole ≡ map_entry (pick (shown_entry e) hole)
      go unmapped = refl
      go hole = refl
      go (stored b) = refl
  walk_map parent p (suc n) files s = rw (walk_map parent p n files (parent s)) (go ((files s).map p) _)
    where
      go : (e r : Entry K) → pick (shown_entry (map_entry e)) (map_entry r) ≡ map_entry (pick (shown_entry e) r)
      go unmapped r = refl
      go hole r = refl
      go (stored b) r = refl

  pub resolve_map : (t : Tree) (files : Files K) (s p : ℕ) → resolve t (map_files files) s p ≡ map_entry (resolve t files s p)
  unfolding resolve
  resolve_map t files s p = walk_map t.parent p (t.level s) files s

  looks_up_map : (parent : ℕ → ℕ) (p n : ℕ) (files : Files K) (s : ℕ) → looks_up parent p n (map_files files) s ≡ looks_up parent p n files s
  unfolding looks_up
  looks_up_map parent p zero files s = refl
  looks_up_map parent p (suc n) files s = rw (map_unmapped ((files s).map p), looks_up_map parent p n files (parent s))

  pub looks_map : (t : Tree) (files : Files K) (s p : ℕ) → looks t (map_files files) s p ≡ looks t files s p
  unfolding looks
  looks_map t files s p = looks_up_map t.parent p (t.level s) files s

  walk_size : (parent : ℕ → ℕ) (n : ℕ) (files : Files K) (s : ℕ) →
      walk parent (λ (x : File L). shown_size x.state x.size) 0 n (map_files files) s ≡ walk parent (λ (x : File K). shown_size x.state x.size) 0 n files s
  unfolding walk
  walk_size parent zero files s = refl
  walk_size parent (suc n) files s = rw (walk_size parent n files (parent s))

  pub size_map : (t : Tree) (files : Files K) (s : ℕ) → size_by_reading t (map_files files) s ≡ size_by_reading t files s
  unfolding size_by_reading
  size_map t files s = walk_size t.parent (t.level s) files s

  pub needs_map : (files : Files K) (c p : ℕ) → needs (map_files files) c p ≡ needs files c p
  unfolding needs
  needs_map files c p = rw (map_unmapped ((files c).map p))

  unmapped_map : (n : ℕ) (e : ℕ → Entry K) → some_unmapped n (λ p. map_entry (e p)) ≡ some_unmapped n e
  unfolding some_unmapped
  unmapped_map zero e = refl
  unmapped_map (suc n) e = rw (map_unmapped (e n), unmapped_map n e)

  depends_map : (t : Tree) (files : Files K) (c n s : ℕ) → depends_on t (map_files files) c n s ≡ depends_on t files c n s
  unfolding depends_on dependent
  depends_map t files c zero s = refl
  depends_map t files c (suc n) s = rw (unmapped_map 64 (files s).map, depends_map t files c n (t.parent s))

  pub reaches_map : (t : Tree) (files : Files K) (c s : ℕ) → reaches t (map_files files) c s ≡ reaches t files c s
  unfolding reaches
  reaches_map t files c s = depends_map t files c (t.level s) s

  pub put_entry_map : (files : Files K) (c p : ℕ) (e : Entry K) → map_files (put_entry files c p e) ≡ put_entry (map_files files) c p (map_entry e)
  unfolding put_entry
  put_entry_map files c p e = fun_ext (λ s. upd_map (λ _. map_file) files c _ s ∙ ap (λ (x : File L). upd (map_files files) c x s) (λ i. record { state = (files c).state; size = (files c).size; map = λ q. upd_map (λ _. map_entry) (files c).map p e q i }))

  pub settle_map : (t : Tree) (c : ℕ) (files : Files K) → map_files (settle_file t c files) ≡ settle_file t c (map_files files)
  unfolding settle_file settle_as
  settle_map t c files = go (files c).state
    where
      go : (l : State) → map_files (settle_as l t files c) ≡ settle_as l t (map_files files) c
      go absent = refl
      go own = refl
      go marked = refl
      go virgin = fun_ext (λ s. upd_map (λ _. map_file) files c _ s ∙ ap (λ n. upd (map_files files) c (record { state = own; size = n; map = λ p. map_entry ((files c).map p) }) s) (sym (size_map t files c)))

  pub mark_map : (t : Tree) (files : Files K) (c : ℕ) → map_files (mark_down t files c) ≡ mark_down t (map_files files) c
  unfolding mark_down
  mark_map t files c = fun_ext (λ s. rw (reaches_map t files c s) (go (reaches t files c s) (files s)))
    where
      go : (b : Bool) (x : File K) → map_file (cond b marked_file x) ≡ cond b marked_file (map_file x)
      go true x = refl
      go false x = refl

-- files are equal by their parts
pub files_ext : {K : Type 0} (a b : Files K) → ((x : ℕ) → (a x).state ≡ (b x).state) → ((x : ℕ) → (a x).size ≡ (b x).size) → ((x q : ℕ) → (a x).map q ≡ (b x).map q) → a ≡ b
files_ext a b h k e = λ i x. record { state = h x i; size = k x i; map = λ q. e x q i }

-- two maps that agree on the blocks that are named
module _ {K L : Type 0} (f g : K → L) where
  pub map_entry_agree : (e : Entry K) → ((b : K) → e ≡ stored b → f b ≡ g b) → map_entry f e ≡ map_entry g e
  map_entry_agree unmapped h = refl
  map_entry_agree hole h = refl
  map_entry_agree (stored b) h = ap stored (h b refl)

  pub map_files_agree : (files : Files K) → ((s p : ℕ) (b : K) → (files s).map p ≡ stored b → f b ≡ g b) → map_files f files ≡ map_files g files
  map_files_agree files h = λ i s. record { state = (files s).state; size = (files s).size; map = λ p. map_entry_agree ((files s).map p) (h s p) i }
