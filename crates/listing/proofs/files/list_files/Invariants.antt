-- `listing::files::list_files`: the files passed are written. Assumes nothing.
use Prim.Native.Nat.{◌*◌, ◌+◌, ◌≤◌}
use Rattle.tables.specs.Packed.{unpack}
use Rattle.listing.specs.Listing.{file_texts}
use Rattle.listing.specs.Written.{Put}
use Rattle.listing.proofs.files.list_files.Given as goal

abbrev pub invariant-loop-f : goal.invariant-loop-f
invariant-loop-f l = (l.w.at ≤ l.initial.w.at + 1069 * l.f) × Put l.initial.w l.w (file_texts (unpack l.t) l.s l.f)
