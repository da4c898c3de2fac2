-- Every event keeps the invariant, with the call that it runs; so does every list of events. Assumes nothing.
use mathlib.Core.Bool.{true≢false}
use mathlib.Core.List.{◌++◌, List, ◌∷◌, []}
use mathlib.Core.Option.{Option, none, some}
use mathlib.Core.Path.{ap, ap₂, refl, subst, sym, ◌∙◌, ◌≡◌}
use Prim.Native.Nat.{ℕ, ◌≤◌}
use Rattle.history.proofs.CallImage.{after_image, gave_image, marks_image}
use Rattle.history.proofs.Image.{image_store, image_of}
use Rattle.history.specs.Demand3.{MarksRightly}
use Rattle.history.proofs.Panel.{after_any, write_image}
use Rattle.history.specs.Events.{Event, check, check_blocks, compact, convert, current, event_on, events_on, gave_all, gave_by, list_of, listed, listed_all, panel_line, panel_read, panel_reset, panel_write, runs, runs_all, set_term}
use Rattle.history.specs.Image.{Held, Image, after, gave, with_image}
use Rattle.history.proofs.Compacting.{compacting}
use Rattle.history.proofs.TermSet.{left}
use Rattle.rules.proofs.Storages.CountCalls.{model_of}
use Rattle.rules.proofs.Storages.MapBlocks.{map_files}
use Rattle.rules.proofs.Storages.Model.{model}
use Rattle.rules.proofs.Whole.Holds.{Holds, holds_quiet, holds_step}
use Rattle.rules.proofs.Whole.HoldsMeans.{given_step}
use Rattle.rules.proofs.Whole.HoldsRun.{both_append, given_append}
use Rattle.rules.proofs.Whole.Order.{InOrder, order_step}
use Rattle.rules.specs.Agreement.{Given, both_give, both_given, both_run}
use Rattle.rules.specs.Calls.{Store, blank_memory, step, tree_in}
use Rattle.rules.specs.Numbers.{Call}
use Rattle.rules.specs.Plain.{Plain}
use Rattle.rules.specs.State.{Files, is_marked}
use Rattle.rules.specs.Storage.{free_blocks, real}
use Rattle.rules.specs.Tally.{Both, Tally}
use Rattle.tables.proofs.Widening.{convert_pages}

-- a list of the ten alone runs these
pub listed_run : (cs : List Call) (h : Held) → runs_all (listed_all cs) h ≡ cs
unfolding listed_all runs_all
listed_run [] h = refl
listed_run (c ∷ cs) h = ap (λ ds. c ∷ ds) (listed_run cs (with_image (after c h.image) h))

-- the image of a store, and registers
abbrev pub held_of : Store real → List ℕ → Held
held_of r rs = record { image = image_of r; registers = rs }

module _ (B : ℕ) (least : 1 ≤ B) (most : B ≤ 4096) where
  -- a store in order goes to the image of one in order, the call o being run, if any
  pub record Goes (r : Store real) (o : Option Call) (m : Image) : Type 0 where
    pub store : Store real
    pub image : m ≡ image_of store
    pub order : InOrder B store
    pub marks : MarksRightly (image_of r) o m

  module _ (r : Store real) (o : InOrder B r) where
    -- one of the ten calls
    call_goes : (c : Call) → Goes r (some c) (after c (image_of r))
    call_goes c = record {
      store = (step real (blank_memory B) c r).store;
      image = after_image B least most r o c;
      order = order_step B least r o c;
      marks = marks_image B least most r o c;
    }

    -- no call: no state changes
    quiet_goes : (r' : Store real) → InOrder B r' → ((f s : ℕ) → (r'.files f s).state ≡ (r.files f s).state) → Goes r none (image_of r')
    quiet_goes r' o' same = record {
      store = r';
      image = refl;
      order = o';
      marks = λ f s h. (
        λ a. true≢false (sym a ∙ ap (λ (x : Store real). is_marked (x.files f s).state) (image_store B most r' o') ∙ ap is_marked (same f s)
            ∙ ap (λ (x : Store real). is_marked (x.files f s).state) (sym (image_store B most r o)) ∙ h),
        λ w. absurd w,
      );
    }

    -- no call, and nothing changes
    look_goes : Goes r none (image_of r)
    look_goes = quiet_goes r o (λ f s. refl)

    -- the call that is run, if any, and nothing else
    run_goes : (o : Option Call) → Goes r o (after_any o (image_of r))
    run_goes none = look_goes
    run_goes (some c) = call_goes c

    -- EVERY EVENT keeps a store in order
    pub event_goes : (e : Event) (rs : List ℕ) → Goes r (runs e (held_of r rs)) (event_on e (held_of r rs)).image
    event_goes (listed c) rs = call_goes c
    event_goes check_blocks rs = look_goes
    event_goes check rs = look_goes
    event_goes panel_reset rs = look_goes
    event_goes (panel_read offset) rs = look_goes
    event_goes (panel_write offset value) rs = subst (Goes r (runs (panel_write offset value) (held_of r rs))) (sym (write_image offset value (held_of r rs))) (run_goes _)
    event_goes panel_line rs = look_goes
    event_goes (set_term s y m d k) rs =
        let x = left B most r o s y m d k in
        subst (Goes r none) (sym x.image) (quiet_goes x.store x.order (λ f c. ap (λ (g : ℕ → Files ℕ). (g f c).state) x.files))
    event_goes (current s day) rs = look_goes
    event_goes (convert old second) rs = subst (λ (p : List ℕ). Goes r none (record { tables = (image_of r).tables; pages = p })) (sym (convert_pages old (image_of r).pages second)) look_goes
    event_goes (compact spare free) rs =
        let x = compacting B most r o spare free in
        subst (Goes r none) (sym x.image) (quiet_goes x.store x.order (λ f c. ap (λ (m : Store model). (m.files f c).state) x.model))

  -- a store that agrees with plain store and tally goes to the image of one that does, the call o being run, if any
  pub record Kept (pl : Plain) (ta : Tally) (o : Option Call) (m : Image) : Type 0 where
    pub store : Store real
    pub image : m ≡ image_of store
    pub holds : Holds B store (both_run B (list_of o) pl ta).plain (both_run B (list_of o) pl ta).tally

  module _ (r : Store real) (pl : Plain) (ta : Tally) (v : Holds B r pl ta) where
    call_kept : (c : Call) → Kept pl ta (some c) (after c (image_of r))
    unfolding both_run
    call_kept c = record { store = (step real (blank_memory B) c r).store; image = after_image B least most r v.order c; holds = holds_step B least r pl ta v c }

    -- no call: sets, files with the bytes of their pages and the number of free blocks stay
    quiet_kept : (r' : Store real) → InOrder B r' → tree_in real r' ≡ tree_in real r → ((f : ℕ) → (model_of r').files f ≡ (model_of r).files f) →
        free_blocks r'.memory ≡ free_blocks r.memory → Kept pl ta none (image_of r')
    unfolding both_run
    quiet_kept r' o t fs n = record { store = r'; image = refl; holds = holds_quiet B r r' pl ta v o t fs n }

    look_kept : Kept pl ta none (image_of r)
    look_kept = quiet_kept r v.order refl (λ f. refl) refl

    run_kept : (o : Option Call) → Kept pl ta o (after_any o (image_of r))
    run_kept none = look_kept
    run_kept (some c) = call_kept c

    -- EVERY EVENT keeps the agreement, with the call that it runs
    pub event_kept : (e : Event) (rs : List ℕ) → Kept pl ta (runs e (held_of r rs)) (event_on e (held_of r rs)).image
    event_kept (listed c) rs = call_kept c
    event_kept check_blocks rs = look_kept
    event_kept check rs = look_kept
    event_kept panel_reset rs = look_kept
    event_kept (panel_read offset) rs = look_kept
    event_kept (panel_write offset value) rs = subst (Kept pl ta (runs (panel_write offset value) (held_of r rs))) (sym (write_image offset value (held_of r rs))) (run_kept _)
    event_kept panel_line rs = look_kept
    event_kept (set_term s y m d k) rs =
        let x = left B most r v.order s y m d k in
        subst (Kept pl ta none) (sym x.image)
        (quiet_kept x.store x.order x.tree (λ f i. map_files (x.memory i).pages (x.files i f)) (ap free_blocks x.memory))
    event_kept (current s day) rs = look_kept
    event_kept (convert old second) rs =
        subst (λ (p : List ℕ). Kept pl ta none (record { tables = (image_of r).tables; pages = p })) (sym (convert_pages old (image_of r).pages second)) look_kept
    event_kept (compact spare free) rs =
        let x = compacting B most r v.order spare free in
        subst (Kept pl ta none) (sym x.image)
        (quiet_kept x.store x.order (ap (λ (m : Store model). tree_in model m) x.model) (λ f. ap (λ (m : Store model). m.files f) x.model) (ap (λ (m : Store model). m.memory) x.model))

    -- what the call that is run gives is what plain store and tally give
    pub call_given : (c : Call) → gave c (image_of r) ≡ both_give B c pl ta
    call_given c = gave_image B least most r v.order c ∙ given_step B r pl ta v least c

    given_by : (o : Option Call) → list_of (gave_by o (image_of r)) ≡ both_given B (list_of o) pl ta
    unfolding both_given
    given_by none = refl
    given_by (some c) = ap (λ (x : Given). x ∷ []) (call_given c)

  -- LISTS of events: on a store in order
  pub record GoesAll (es : List Event) (r : Store real) (rs : List ℕ) : Type 0 where
    pub store : Store real
    pub image : (events_on es (held_of r rs)).image ≡ image_of store
    pub order : InOrder B store

  pub events_go : (es : List Event) (r : Store real) (rs : List ℕ) → InOrder B r → GoesAll es r rs
  unfolding events_on
  events_go [] r rs o = record { store = r; image = refl; order = o }
  events_go (e ∷ es) r rs o =
      let g = event_goes r o e rs in
      let rs' : List ℕ = (event_on e (held_of r rs)).registers in
      let q : GoesAll es g.store rs' = events_go es g.store rs' g.order in
      record { store = q.store; image = ap (λ (m : Image). (events_on es (record { image = m; registers = rs' })).image) g.image ∙ q.image; order = q.order }

  -- and with plain store and tally
  pub record KeptAll (es : List Event) (r : Store real) (rs : List ℕ) (pl : Plain) (ta : Tally) : Type 0 where
    pub store : Store real
    pub image : (events_on es (held_of r rs)).image ≡ image_of store
    pub holds : Holds B store (both_run B (runs_all es (held_of r rs)) pl ta).plain (both_run B (runs_all es (held_of r rs)) pl ta).tally
    pub given : gave_all es (held_of r rs) ≡ both_given B (runs_all es (held_of r rs)) pl ta

  pub events_kept : (es : List Event) (r : Store real) (rs : List ℕ) (pl : Plain) (ta : Tally) → Holds B r pl ta → KeptAll es r rs pl ta
  unfolding events_on runs_all gave_all both_run both_given
  events_kept [] r rs pl ta v = record { store = r; image = refl; holds = v; given = refl }
  events_kept (e ∷ es) r rs pl ta v =
      let h : Held = event_on e (held_of r rs) in
      let o : Option Call = runs e (held_of r rs) in
      let k : Kept pl ta o h.image = event_kept r pl ta v e rs in
      let b : Both = both_run B (list_of o) pl ta in
      let at : Image → Held = λ m. record { image = m; registers = h.registers } in
      let q : KeptAll es k.store h.registers b.plain b.tally = events_kept es k.store h.registers b.plain b.tally k.holds in
      let cs : runs_all es h ≡ runs_all es (held_of k.store h.registers) = ap (λ m. runs_all es (at m)) k.image in
      let bs : both_run B (list_of o ++ runs_all es h) pl ta ≡ both_run B (runs_all es (held_of k.store h.registers)) b.plain b.tally =
      both_append B (list_of o) _ pl ta ∙ ap (λ l. both_run B l b.plain b.tally) cs in
      record {
        store = q.store;
        image = ap (λ m. (events_on es (at m)).image) k.image ∙ q.image;
        holds = subst (λ (x : Both). Holds B q.store x.plain x.tally) (sym bs) q.holds;
        given = ap₂ (λ xs ys. xs ++ ys) (given_by r pl ta v o) (ap (λ m. gave_all es (at m)) k.image ∙ q.given ∙ ap (λ l. both_given B l b.plain b.tally) (sym cs))
            ∙ sym (given_append B (list_of o) _ pl ta);
      }
