-- Changes of the tables: at a loop's start, one after another, by another name; tables that differ in their files alone; pages that are not there. Assumes nothing.
use mathlib.Core.Bool.{false}
use mathlib.Core.List.{List}
use mathlib.Core.Path.{◌≡◌, ap, sym, ◌∙◌}
use Prim.Native.Nat.{ℕ, ◌≤◌}
use borrow.Author.Tests.{le-ltb}
use Rattle.base.specs.Logic.{and_false}
use Rattle.rules.specs.State.{Files, Tables}
use Rattle.tables.specs.Packed.{is_file, is_page, unpack}
use Rattle.tables.specs.Views.{PackedTables, Turns}

-- one change after another
pub turns_then : {t₁ t₂ t₃ : List ℕ} {f g : Tables → Tables} → Turns t₁ t₂ f → Turns t₂ t₃ g → Turns t₁ t₃ (λ x. g (f x))
turns_then {g} a b = record { view = b.view ∙ ap g a.view; packed = b.packed }

-- nothing changed yet
pub turns_start : (t : List ℕ) (op : Tables → Tables) → PackedTables t → op (unpack t) ≡ unpack t → Turns t t op
turns_start t op h e = record { view = sym e; packed = h }

-- one change more
pub turns_more : {t₁ t₂ t₃ : List ℕ} (f g op : Tables → Tables) → Turns t₁ t₂ f → Turns t₂ t₃ g → g (f (unpack t₁)) ≡ op (unpack t₁) → Turns t₁ t₃ op
turns_more f g op a b e = record { view = b.view ∙ ap g a.view ∙ e; packed = b.packed }

-- a change that comes to the same
pub turns_as : {t t' : List ℕ} (f op : Tables → Tables) → Turns t t' f → f (unpack t) ≡ op (unpack t) → Turns t t' op
turns_as f op a e = record { view = a.view ∙ e; packed = a.packed }

-- tables that differ in their files alone
pub files_same : (tb : Tables) (x y : ℕ → Files ℕ) → x ≡ y →
    ◌≡◌ {A = Tables} (record { blocks = tb.blocks; next = tb.next; bits = tb.bits; sets = tb.sets; files = x })
    (record { blocks = tb.blocks; next = tb.next; bits = tb.bits; sets = tb.sets; files = y })
files_same tb x y e = λ i. record { blocks = tb.blocks; next = tb.next; bits = tb.bits; sets = tb.sets; files = e i }

-- no such page
pub no_page : (f s p : ℕ) → 64 ≤ p → is_page f s p ≡ false
no_page f s p h = rw (le-ltb p 64 h) (and_false (is_file f s))
