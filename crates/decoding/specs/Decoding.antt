-- The calls of a session. Document 01, "The session program".
use Rattle.std.specs.Prelude.{◌&&◌, Bool, cond, false, true, List, ◌∷◌, [], None, Option, Some, ◌<◌, ℕ, ◌≤◌, eqb, ltb, length, replicate}
use Rattle.packing.specs.Fields.{get_field}
use Rattle.packing.specs.Words.{get_word}
use Rattle.rules.specs.Numbers.{Call, create, delete, make, narrow_write, remove, truncate}
use Rattle.decoding.specs.declared.decoding.Asked as declared
use Rattle.decoding.specs.declared.decoding.Asked.TheVariants as asked
use Rattle.decoding.specs.declared.decoding.Fields.{Fields}

-- what the bytes of a call ask for: a call with its op, or bad
pub data Request : Type 0 where
  bad : Request
  ask : ℕ → Call → Request

-- "A call is op 4 bits, set 4, file 4, other 4, offset 16, length 16, fill 8, zero 8."
abbrev pub call_widths : List ℕ
call_widths = 4 ∷ 4 ∷ 4 ∷ 4 ∷ 16 ∷ 16 ∷ 8 ∷ 8 ∷ []

pub record CallFields : Type 0 where
  pub op : ℕ
  pub set : ℕ
  pub file : ℕ
  pub other : ℕ
  pub offset : ℕ
  pub len : ℕ
  pub fill : ℕ
  pub zero : ℕ

unfoldable pub call_fields : ℕ → CallFields
call_fields w = record {
  op = get_field call_widths w 0;
  set = get_field call_widths w 1;
  file = get_field call_widths w 2;
  other = get_field call_widths w 3;
  offset = get_field call_widths w 4;
  len = get_field call_widths w 5;
  fill = get_field call_widths w 6;
  zero = get_field call_widths w 7;
}

abbrev pub all_zero : List ℕ → Bool
all_zero [] = true
all_zero (x ∷ xs) = eqb x 0 && all_zero xs

-- a call, but for "a nonzero field that the op does not use"
unfoldable pub unless : List ℕ → ℕ → Call → Request
unless unused op c = cond (all_zero unused) (ask op c) bad

-- "Ops: 1 create, 2 write (length copies of fill), 3 truncate (offset is the size), 4 delete, 5 make read-only set `other` from set, 6 same, writeable, 7 remove."
-- "another op, a length over 4,096, or a nonzero field that the op does not use" is bad
unfoldable pub request_of : CallFields → Request
request_of x =
    cond (ltb 4096 x.len) bad
    (cond (eqb x.op 1) (unless (x.other ∷ x.offset ∷ x.len ∷ x.fill ∷ x.zero ∷ []) 1 (create x.set x.file))
    (cond (eqb x.op 2) (unless (x.other ∷ x.zero ∷ []) 2 (narrow_write x.set x.file x.offset (replicate x.len x.fill)))
    (cond (eqb x.op 3) (unless (x.other ∷ x.len ∷ x.fill ∷ x.zero ∷ []) 3 (truncate x.set x.file x.offset))
    (cond (eqb x.op 4) (unless (x.other ∷ x.offset ∷ x.len ∷ x.fill ∷ x.zero ∷ []) 4 (delete x.set x.file))
    (cond (eqb x.op 5) (unless (x.file ∷ x.offset ∷ x.len ∷ x.fill ∷ x.zero ∷ []) 5 (make x.set x.other false))
    (cond (eqb x.op 6) (unless (x.file ∷ x.offset ∷ x.len ∷ x.fill ∷ x.zero ∷ []) 6 (make x.set x.other true))
    (cond (eqb x.op 7) (unless (x.file ∷ x.other ∷ x.offset ∷ x.len ∷ x.fill ∷ x.zero ∷ []) 7 (remove x.set))
    bad)))))))

-- WHAT BYTES ASK FOR: 8 of them; "A short call (1 to 7 bytes)" is bad
unfoldable pub request : List ℕ → Request
request bytes = cond (eqb (length bytes) 8) (request_of (call_fields (get_word 7 bytes 0))) bad

-- what the code's enums mean
abbrev pub call_meant : declared.Asked → Call
call_meant (asked.Create s f) = create s f
call_meant (asked.Write s f off n v) = narrow_write s f off (replicate n v)
call_meant (asked.Truncate s f n) = truncate s f n
call_meant (asked.Delete s f) = delete s f
call_meant (asked.Make s c w) = make s c w
call_meant (asked.Remove s) = remove s

abbrev pub op_of : declared.Asked → ℕ
op_of (asked.Create s f) = 1
op_of (asked.Write s f off n v) = 2
op_of (asked.Truncate s f n) = 3
op_of (asked.Delete s f) = 4
op_of (asked.Make s c w) = cond w 6 5
op_of (asked.Remove s) = 7

abbrev pub request_meant : Option declared.Asked → Request
request_meant None = bad
request_meant (Some c) = ask (op_of c) (call_meant c)

-- For the contracts of the code, not for a reader of document 01: the fields as the code holds them, and bounds that callers want.
abbrev pub fields_meant : Fields → CallFields
fields_meant x = record { op = x.op; set = x.set; file = x.file; other = x.other; offset = x.offset; len = x.length; fill = x.fill; zero = x.zero }

pub record FieldsFit (x : Fields) : Type 0 where
  pub length_fits : x.length < 65536
  pub fill_fits : x.fill < 256

-- a write has at most 4,096 bytes
abbrev pub call_fits : declared.Asked → Type 0
call_fits (asked.Create s f) = Unit {0}
call_fits (asked.Write s f off n v) = n ≤ 4096
call_fits (asked.Truncate s f n) = Unit {0}
call_fits (asked.Delete s f) = Unit {0}
call_fits (asked.Make s c w) = Unit {0}
call_fits (asked.Remove s) = Unit {0}

abbrev pub request_fits : Option declared.Asked → Type 0
request_fits None = Unit {0}
request_fits (Some c) = call_fits c

-- 4,096 copies of a byte
unfoldable pub copies : ℕ → List ℕ
copies v = replicate 4096 v
