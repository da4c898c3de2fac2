-- The accesses of the front panel leave the image that the calls that they run leave, and registers that show what these calls give. Assumes nothing.
use mathlib.Core.Option.{Option, none-ne-some, some-injective, none, some}
use mathlib.Core.Path.{ap, ap₂, refl, sym, ◌∙◌, ◌≡◌}
use mathlib.Core.List.{◌++◌, List, append_assoc, ◌∷◌, []}
use Prim.Native.Nat.{ℕ}
use lib.Dec.{eqb}
use Rattle.base.specs.Logic.{test?}
use Rattle.history.specs.Events.{Event, check, check_blocks, compact, convert, current, event_on, events_on, gave_all, gave_by, list_of, listed, listed_all, panel_line, panel_read, panel_reset, panel_write, runs, runs_all, set_term}
use Rattle.history.specs.Image.{Held, Image, after, gave, with_image, with_registers}
use Rattle.history.specs.Panel.{CountsClaim, directly, directly_all}
use Rattle.rules.specs.Numbers.{Call}
use Rattle.tables.proofs.Widening.{convert_pages}
use Rattle.tables.specs.Calls.{call_on}
use Rattle.tables.specs.Panel.{PanelOutcome, answered, call_run, command_in, commanded, entered, no_register, panel_write_on}

-- the image after a call, or after none
abbrev pub after_any : Option Call → Image → Image
after_any none m = m
after_any (some c) m = after c m

-- a value written to the command register leaves the image that its call leaves
command_image : (o : Option Call) (r : List ℕ) (m : Image)
    → let x : PanelOutcome = commanded call_on o r m.tables m.pages in ◌≡◌ {A = Image} (record { tables = x.tables; pages = x.pages }) (after_any o m)
unfolding commanded
command_image none r m = refl
command_image (some c) r m = refl

pub write_image : (offset value : ℕ) (h : Held) → (event_on (panel_write offset value) h).image ≡ after_any (call_run offset value h.registers) h.image
unfolding panel_write_on call_run
write_image offset value h =
    let r : List ℕ = h.registers in
    test? (no_register offset r) (λ n. rw n refl)
    (λ n. test? (eqb offset 0)
    (λ z. rw (n, z) (command_image (command_in value r) (entered offset value r) h.image))
    (λ z. rw (n, z) refl))

-- and registers that show its answer
command_shows : (o : Option Call) (c : Call) (r : List ℕ) (m : Image) → o ≡ some c → (commanded call_on o r m.tables m.pages).registers ≡ answered (gave c m).answer r
unfolding commanded
command_shows none c r m e = absurd (none-ne-some c e)
command_shows (some d) c r m e = ap (λ (x : Call). answered (gave x m).answer r) (some-injective d c e)

pub write_shows : (offset value : ℕ) (c : Call) (h : Held) → call_run offset value h.registers ≡ some c
    → (event_on (panel_write offset value) h).registers ≡ answered (gave c h.image).answer (entered offset value h.registers)
unfolding panel_write_on call_run
write_shows offset value c h e =
    let r : List ℕ = h.registers in
    test? (no_register offset r) (λ n. let d : none ≡ some c = rw n at e in absurd (none-ne-some c d))
    (λ n. test? (eqb offset 0)
    (λ z. let d : command_in value r ≡ some c = rw (n, z) at e in rw (n, z) (command_shows (command_in value r) c (entered offset value r) h.image d))
    (λ z. let d : none ≡ some c = rw (n, z) at e in absurd (none-ne-some c d)))

-- ---- every event leaves the image, runs the calls and gives what it does directly; q are the registers beside which it is done directly

append_on : (es fs : List Event) (h : Held) → events_on (es ++ fs) h ≡ events_on fs (events_on es h)
unfolding events_on
append_on [] fs h = refl
append_on (e ∷ es) fs h = append_on es fs (event_on e h)

append_runs : (es fs : List Event) (h : Held) → runs_all (es ++ fs) h ≡ runs_all es h ++ runs_all fs (events_on es h)
unfolding events_on runs_all
append_runs [] fs h = refl
append_runs (e ∷ es) fs h = ap (λ cs. list_of (runs e h) ++ cs) (append_runs es fs (event_on e h)) ∙ sym (append_assoc (list_of (runs e h)) _ _)

append_gave : (es fs : List Event) (h : Held) → gave_all (es ++ fs) h ≡ gave_all es h ++ gave_all fs (events_on es h)
unfolding events_on gave_all
append_gave [] fs h = refl
append_gave (e ∷ es) fs h = ap (λ xs. list_of (gave_by (runs e h) h.image) ++ xs) (append_gave es fs (event_on e h)) ∙ sym (append_assoc (list_of (gave_by (runs e h) h.image)) _ _)

-- a call that is run, or none
any_on : (o : Option Call) (h : Held) → events_on (listed_all (list_of o)) h ≡ with_image (after_any o h.image) h
unfolding events_on listed_all
any_on none h = refl
any_on (some c) h = refl

any_runs : (o : Option Call) (h : Held) → runs_all (listed_all (list_of o)) h ≡ list_of o
unfolding runs_all listed_all
any_runs none h = refl
any_runs (some c) h = refl

any_gave : (o : Option Call) (h : Held) → gave_all (listed_all (list_of o)) h ≡ list_of (gave_by o h.image)
unfolding gave_all listed_all
any_gave none h = refl
any_gave (some c) h = refl

direct_on : (e : Event) (h : Held) (q : List ℕ) → events_on (directly e h) (with_registers q h) ≡ with_registers q (event_on e h)
unfolding events_on
direct_on (listed c) h q = refl
direct_on check_blocks h q = refl
direct_on check h q = refl
direct_on panel_reset h q = refl
direct_on (panel_read offset) h q = refl
direct_on (panel_write offset value) h q =
    any_on (call_run offset value h.registers) (with_registers q h)
    ∙ ap (λ (m : Image). record { image = m; registers = q }) (sym (write_image offset value h))
direct_on panel_line h q = refl
direct_on (set_term s y m d k) h q = refl
direct_on (current s day) h q = refl
direct_on (convert old second) h q =
    ap (λ (p : List ℕ). record { image = record { tables = h.image.tables; pages = p }; registers = q }) (sym (convert_pages old h.image.pages second))
direct_on (compact spare free) h q = refl

direct_runs : (e : Event) (h : Held) (q : List ℕ) → runs_all (directly e h) (with_registers q h) ≡ list_of (runs e h)
unfolding runs_all
direct_runs (listed c) h q = refl
direct_runs check_blocks h q = refl
direct_runs check h q = refl
direct_runs panel_reset h q = refl
direct_runs (panel_read offset) h q = refl
direct_runs (panel_write offset value) h q = any_runs (call_run offset value h.registers) (with_registers q h)
direct_runs panel_line h q = refl
direct_runs (set_term s y m d k) h q = refl
direct_runs (current s day) h q = refl
direct_runs (convert old second) h q = refl
direct_runs (compact spare free) h q = refl

direct_gave : (e : Event) (h : Held) (q : List ℕ) → gave_all (directly e h) (with_registers q h) ≡ list_of (gave_by (runs e h) h.image)
unfolding gave_all
direct_gave (listed c) h q = refl
direct_gave check_blocks h q = refl
direct_gave check h q = refl
direct_gave panel_reset h q = refl
direct_gave (panel_read offset) h q = refl
direct_gave (panel_write offset value) h q = any_gave (call_run offset value h.registers) (with_registers q h)
direct_gave panel_line h q = refl
direct_gave (set_term s y m d k) h q = refl
direct_gave (current s day) h q = refl
direct_gave (convert old second) h q = refl
direct_gave (compact spare free) h q = refl

-- ---- lists of events

images_count : (es : List Event) (h : Held) (q : List ℕ) → (events_on es h).image ≡ (events_on (directly_all es h) (with_registers q h)).image
unfolding events_on directly_all
images_count [] h q = refl
images_count (e ∷ es) h q =
    let k : Held = event_on e h in
    images_count es k q
    ∙ sym (ap (λ (x : Held). x.image) (append_on (directly e h) (directly_all es k) (with_registers q h) ∙ ap (events_on (directly_all es k)) (direct_on e h q)))

given_count : (es : List Event) (h : Held) (q : List ℕ) → gave_all es h ≡ gave_all (directly_all es h) (with_registers q h)
unfolding gave_all directly_all
given_count [] h q = refl
given_count (e ∷ es) h q =
    let k : Held = event_on e h in
    ap (λ xs. list_of (gave_by (runs e h) h.image) ++ xs) (given_count es k q)
    ∙ sym (append_gave (directly e h) (directly_all es k) (with_registers q h)
    ∙ ap₂ (λ xs ys. xs ++ ys) (direct_gave e h q) (ap (gave_all (directly_all es k)) (direct_on e h q)))

runs_count : (es : List Event) (h : Held) (q : List ℕ) → runs_all es h ≡ runs_all (directly_all es h) (with_registers q h)
unfolding runs_all directly_all
runs_count [] h q = refl
runs_count (e ∷ es) h q =
    let k : Held = event_on e h in
    ap (λ cs. list_of (runs e h) ++ cs) (runs_count es k q)
    ∙ sym (append_runs (directly e h) (directly_all es k) (with_registers q h)
    ∙ ap₂ (λ xs ys. xs ++ ys) (direct_runs e h q) (ap (runs_all (directly_all es k)) (direct_on e h q)))

-- THEOREM
pub counts : CountsClaim
counts h es = (images_count es h h.registers, given_count es h h.registers, runs_count es h h.registers)
