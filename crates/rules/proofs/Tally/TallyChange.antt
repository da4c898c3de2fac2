-- Steps 2 to 5 together, over `counting`: what a change of one file leaves is what the tally's turns leave, with the writer's own file put in its place. Assumes nothing.
use mathlib.Core.Bool.{Bool, false, true}
use mathlib.Core.List.{List, Memᴰ, ◌++◌, ◌∷◌}
use mathlib.Core.Path.{ap, ◌∙◌, ◌≡◌}
use Prim.Native.Nat.{◌+◌, ◌-◌, ℕ, ◌≤◌}
use Rattle.base.specs.Update.{upd, upd_same, upd_upd}
use Rattle.rules.proofs.Storages.Model.{counting}
use Rattle.rules.proofs.Steps.Handing.{ProperTree}
use Rattle.rules.proofs.Tally.TallyLoops.{PagesOf, count_same_in, put_inside, put_outside}
use Rattle.rules.proofs.Tally.TallyReach.{NoVirginRoot}
use Rattle.rules.proofs.Tally.TallySteps.{give_all_law, pending_after, reserve_all, settle_all, settle_maps, turn_of, with_reserved, with_turn}
use Rattle.rules.proofs.Tally.TallyWriter.{drop_all, enter_stored, put_all, with_released}
use Rattle.rules.proofs.Steps.WriterSteps.{NoDup}
use Rattle.rules.specs.Rules.{Work, change, copied, count_in, drop_page, each, enter, extra, give_all, handed, own_need, put_entry, reserve, resize, settle, with_files}
use Rattle.rules.specs.State.{Tree, hole, is_stored, own, set_count, stored}
use Rattle.rules.specs.Tally.{Kind, TallyFile, TallyFiles, Turn, each_child, tally_give, tally_settle}

-- what a change leaves, where x is the Turn after the children's turns and y the file of set s: n blocks taken, m free again
abbrev pub change_leaves : Work counting → ℕ → Turn → ℕ → TallyFile → ℕ → (ℕ → Kind) → Work counting
change_leaves w s x n y m h = record { memory = x.free + m; files = upd x.files s y; pending = h; taken = n + w.taken; copies = x.copies; marks = x.marks }

-- the kinds of the writer's file: those of rs become stored, those of ds holes
abbrev pub new_kinds : List ℕ → List ℕ → (ℕ → Kind) → ℕ → Kind
new_kinds rs ds m = each (λ p g. upd g p hole) ds (each (λ p g. upd g p (stored tt)) rs m)

put_both : (s : ℕ) (rs ds : List ℕ) (fs : TallyFiles) →
    each (λ p g. put_entry g s p hole) ds (each (λ p g. put_entry g s p (stored tt)) rs fs) ≡
    upd fs s (record { state = (fs s).state; size = (fs s).size; map = new_kinds rs ds (fs s).map })
put_both s rs ds fs =
    rw (put_all s (stored tt) rs fs)
    (put_all s hole ds (upd fs s _)
    ∙ rw (upd_same fs s (record { state = (fs s).state; size = (fs s).size; map = each (λ p g. upd g p (stored tt)) rs (fs s).map })) (upd_upd fs s _ _))

resize_file : (s : ℕ) (fs : TallyFiles) (y : TallyFile) (g : ℕ → ℕ) →
    upd (upd fs s y) s (record { state = own; size = g (upd fs s y s).size; map = (upd fs s y s).map }) ≡ upd fs s (record { state = own; size = g y.size; map = y.map })
resize_file s fs y g = rw (upd_same fs s y) (upd_upd fs s _ _)

module _ (t : Tree) (proper : ProperTree t) (shallow : (x : ℕ) → t.level x ≤ set_count) (s : ℕ) (ps rs ds es : List ℕ) (touches handing : ℕ → Bool) (r : PagesOf (ps ++ ds) touches) (off : (p : ℕ) → Memᴰ p ps → handing p ≡ false) (on : (p : ℕ) → Memᴰ p ds → handing p ≡ true)
    (nd : NoDup ds) (disjoint : (p : ℕ) → Memᴰ p ds → Memᴰ p rs → ⊥) (lay : ℕ → Unit {0} → Unit {0}) (resized : ℕ → ℕ)
    (after : Turn → Turn) (extras : (w : Work counting) → give_all counting t extra s es w ≡ with_turn w (after (turn_of w)))
    (w : Work counting) (nv : NoVirginRoot t w.files) where
  abbrev need : ℕ
  need = own_need counting s rs w.files

  abbrev settled_files : TallyFiles
  settled_files = each_child (tally_settle t) (s ∷ t.children s) w.files

  abbrev turns : Turn
  turns = after (tally_give t s touches handing (record { files = settled_files; free = w.memory - need; copies = w.copies; marks = w.marks }))

  need_same : own_need counting s rs settled_files ≡ need
  unfolding own_need
  need_same = rw (settle_maps t proper.ok (s ∷ t.children s) w.files s)

  freed_same : count_in ds (λ p. is_stored ((each (λ p g. put_entry g s p (stored tt)) rs turns.files s).map p)) ≡ count_in ds (λ p. is_stored ((turns.files s).map p))
  freed_same = count_same_in ds _ _ (λ p m. ap is_stored
      (ap (λ (g : TallyFiles). (g s).map p) (put_all s (stored tt) rs turns.files) ∙ ap (λ (x : TallyFile). x.map p) (upd_same turns.files s _)
      ∙ put_outside (stored tt) rs (turns.files s).map p (disjoint p m)))

  pub change_leaves_law : change counting t s ps rs ds es lay resized w ≡
      change_leaves w s turns need (record { state = own; size = resized (turns.files s).size; map = new_kinds rs ds (turns.files s).map })
      (count_in ds (λ p. is_stored ((turns.files s).map p))) (pending_after rs w.pending)
  unfolding change resize
  change_leaves_law =
      let w₁ : Work counting = each (settle counting t) (s ∷ t.children s) w in
      let w₂ : Work counting = each (reserve counting t s) rs w₁ in
      let w₃ : Work counting = give_all counting t extra s es (give_all counting t handed s ds (give_all counting t copied s ps w₂)) in
      let w₄ : Work counting = each (enter counting t s lay) rs w₃ in
      let w₅ : Work counting = each (drop_page counting t s) ds w₄ in
      let h : ℕ → Kind = pending_after rs w.pending in
      let y : TallyFile = record { state = (turns.files s).state; size = (turns.files s).size; map = new_kinds rs ds (turns.files s).map } in
      let v₁ : Work counting = with_files counting t w settled_files in
      let v₂ : Work counting = with_reserved v₁ need h in
      let v₃ : Work counting = with_turn v₂ turns in
      let v₄ : Work counting = with_files counting t v₃ (each (λ p g. put_entry g s p (stored tt)) rs turns.files) in
      let v₅ : Work counting = with_released v₃ (count_in ds (λ p. is_stored ((turns.files s).map p))) (upd turns.files s y) in
      let e₁ : w₁ ≡ v₁ = settle_all t proper.ok (s ∷ t.children s) w nv in
      let e₂ : w₂ ≡ v₂ = ap (each (reserve counting t s) rs) e₁ ∙ reserve_all t proper.ok s rs v₁ ∙ ap (λ n. with_reserved v₁ n h) need_same in
      let e₃ : w₃ ≡ v₃ =
      ap (give_all counting t extra s es) (ap (λ w. give_all counting t handed s ds (give_all counting t copied s ps w)) e₂ ∙ give_all_law t proper shallow s ps ds touches handing r off on v₂)
      ∙ extras (with_turn v₂ _) in
      let e₄ : w₄ ≡ v₄ = ap (each (enter counting t s lay) rs) e₃ ∙ enter_stored t s lay rs v₃ (put_inside (stored tt) rs w.pending) in
      let e₅ : w₅ ≡ v₅ =
      ap (each (drop_page counting t s) ds) e₄ ∙ drop_all t s ds nd v₄ ∙ (λ i. with_released v₃ (freed_same i) (put_both s rs ds turns.files i)) in
      ap (λ (v : Work counting). resize counting t s (resized (v.files s).size) v) e₅
      ∙ (λ i. record {
        memory = v₅.memory;
        files = resize_file s turns.files y resized i;
        pending = h;
        taken = v₅.taken;
        copies = v₅.copies;
        marks = v₅.marks;
      })
