-- The places and widths of the layout, as numbers, and how they fit together. Assumes nothing.
use mathlib.Core.Path.{refl, ◌≡◌}
use Prim.Native.Nat.{◌*◌, ◌+◌, ℕ}
use native.Mathlib.Omega.{arith}
use Rattle.packing.specs.Fields.{total}
use Rattle.rules.specs.State.{largest_blocks}
use Rattle.tables.specs.Convert.{old_files_at, old_table_bytes}
use Rattle.tables.specs.Layout.{bitmap_bytes, entry_bytes, entry_widths, file_at, file_bytes, files_at, head_bytes, head_widths, header_bytes, header_widths, map_at, maps_at, set_files_bytes, set_widths, sets_at, table_bytes, term_bytes, term_widths, tree_bytes}

-- LAW: "so the tables become 17,468 bytes", "128 file records, 132 bytes each"
pub bytes_said : (table_bytes ≡ 17468) × (file_bytes ≡ 132)
bytes_said = (refl, refl)

-- LAW: document 01's layout, "8 set records, 3 bytes each", "The tables are 17,436 bytes"
pub old_bytes_said : (tree_bytes ≡ 3) × (old_table_bytes ≡ 17436) × (old_files_at ≡ 540)
old_bytes_said = (refl, refl, refl)

-- LAW: where the set records, the file records and the maps begin, and the bytes of the file records of a set
pub places_are : (sets_at ≡ 516) × (files_at ≡ 572) × (maps_at ≡ 576) × (set_files_bytes ≡ 2112)
places_are = (refl, refl, refl, refl)

-- LAW: the fields fill the bytes of their word, the bits of all blocks those of the bitmap
pub fields_fill : (total header_widths ≡ header_bytes * 8) × (largest_blocks ≡ bitmap_bytes * 8) × (total set_widths ≡ tree_bytes * 8)
    × (total term_widths ≡ term_bytes * 8) × (total head_widths ≡ head_bytes * 8) × (total entry_widths ≡ entry_bytes * 8)
fields_fill = (refl, refl, refl, refl, refl, refl)

-- LAW: a map stands behind the head of its file record
pub map_behind_head : (f s : ℕ) → map_at f s ≡ file_at f s + head_bytes
map_behind_head f s = omega arith
