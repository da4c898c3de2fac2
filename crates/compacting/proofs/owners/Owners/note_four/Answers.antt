-- `compacting::owners::Owners::note_four` meets its contract. The loop's invariant: the entries before page q are noted. Assumes nothing.
use mathlib.Core.List.{List}
use mathlib.Core.Path.{◌≡◌, ap, refl, sym, ◌∙◌}
use Prim.Native.Nat.{ℕ, ◌*◌, ◌+◌, ◌<◌}
use native.Mathlib.Omega.{arith}
use Rattle.compaction.specs.Compact.{entry_in}
use Rattle.tables.specs.Layout.{read_entry}
use Rattle.tables.specs.Packed.{unpack}
use Rattle.compacting.specs.Owners.{noted_entry, noted_none, noted_from}
use Rattle.compacting.proofs.Becoming.{become_as, become_next, become_none}
use Rattle.compacting.proofs.Tracking.{map_next, word_below, word_entry}
use Rattle.compacting.proofs.owners.Owners.note_four.Goals as goal

pub loop-q-init : goal.loop-q-init
loop-q-init c = let a = c.args in become_none _ _ (sym (noted_none a.t.now a.self.now.places a.self.now.first (a.r * 64 + a.g * 4)))

pub word_of-requires : goal.word_of-requires
word_of-requires c = let p = c.requires in (p.0.len, p.1, omega arith)

pub note_word-requires : goal.note_word-requires
note_word-requires c =
    let l = c.loop-q in
    let m : c.args.g * 4 + l.q < 64 = omega arith in
    (omega arith, word_below c.args.t.now c.args.r (c.args.g * 4 + l.q) _ c.requires.0 c.requires.1 m c.word_of.ensures, omega (arith, l.invariant.first, c.requires.3))

pub loop-q-preserved : goal.loop-q-preserved
loop-q-preserved c =
    let a = c.args in
    let l = c.loop-q in
    let m : a.g * 4 + l.q < 64 = omega arith in
    let e : a.r * 64 + (a.g * 4 + l.q) ≡ a.r * 64 + a.g * 4 + l.q = omega arith in
    let f : List ℕ → ℕ → List ℕ = λ x w. noted_entry x w (read_entry c.word_of.result) (a.r * 64 + a.g * 4 + l.q) in
    become_next _ _ _ _ _ f l.invariant c.note_word.ensures
    (map_next a.t.now a.self.now.first a.self.now.places _ _ (a.r * 64 + a.g * 4) l.q _ refl
    (word_entry a.t.now a.r (a.g * 4 + l.q) _ c.requires.1 m c.word_of.ensures ∙ ap (entry_in (unpack a.t.now).files) e) refl)

pub returns : goal.returns
returns c =
    let a = c.args in
    let l = c.loop-q in
    let e : l.q ≡ 4 = omega arith in
    become_as _ _ _ _ l.invariant (ap (noted_from a.t.now a.self.now.places a.self.now.first (a.r * 64 + a.g * 4)) e)
