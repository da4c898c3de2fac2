-- For the contracts inside this crate: the commands by value.
use Rattle.std.specs.Prelude.{◌&&◌, Bool, cond, false, true, ◌||◌, ℕ, eqb, leb}
use Rattle.rules.specs.Numbers.{Call, create, delete, make, remove}
use Rattle.panel.specs.declared.commands.Command.{Command}
use Rattle.panel.specs.declared.commands.Command.TheVariants.{Create, Delete, Make, Remove}

-- whether a value is a command; the call that such a value names (of the five values 7 is the last)
unfoldable pub is_command : ℕ → Bool
is_command op = eqb op 1 || (leb 4 op && leb op 7)

unfoldable pub call_named : ℕ → ℕ → ℕ → ℕ → Call
call_named op s f o =
    cond (eqb op 1) (create s f)
    (cond (eqb op 4) (delete s f)
    (cond (eqb op 5) (make s o false)
    (cond (eqb op 6) (make s o true) (remove s))))

-- the call that a command of the code means
abbrev pub call_meant : Command → ℕ → ℕ → ℕ → Call
call_meant Create s f o = create s f
call_meant Delete s f o = delete s f
call_meant (Make w) s f o = make s o w
call_meant Remove s f o = remove s
