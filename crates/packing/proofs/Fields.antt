-- One field of a word put: it is read back, and the others stay. These laws rest on `split_join` of specs/Fields. Assumes nothing.
use Rattle.std.specs.Prelude.{List, ◌≡◌, ◌≢◌, ℕ, ◌^◌, ◌<◌, length, get_or, set}
use Rattle.std.proofs.Common.{get_or-set_same, get_or-set_other}
use Rattle.packing.specs.Fields.{total, split, put_field, get_field, split_join, split_fit, length_split, fit_set}

pub split_put : (ws : List ℕ) (x i v : ℕ) → x < 2 ^ total ws → v < 2 ^ get_or ws i 0 → split ws (put_field ws x i v) ≡ set (split ws x) i v
split_put ws x i v hx hv = split_join ws (set (split ws x) i v) (fit_set ws (split ws x) i v (split_fit ws x hx) hv)

pub field_same : (ws : List ℕ) (x i v : ℕ) → x < 2 ^ total ws → v < 2 ^ get_or ws i 0 → i < length ws → get_field ws (put_field ws x i v) i ≡ v
field_same ws x i v hx hv hi = rw (split_put ws x i v hx hv) (get_or-set_same (split ws x) i v 0 (rw length_split hi))

pub field_other : (ws : List ℕ) (x i j v : ℕ) → x < 2 ^ total ws → v < 2 ^ get_or ws i 0 → j ≢ i → get_field ws (put_field ws x i v) j ≡ get_field ws x j
field_other ws x i j v hx hv hj = rw (split_put ws x i v hx hv) (get_or-set_other (split ws x) i j v 0 hj)
