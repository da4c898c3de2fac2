-- `panel::registers::no_register` meets its contract. Assumes nothing.
use mathlib.Core.Path.{sym}
use native.Mathlib.Omega.{arith}
use Rattle.panel.proofs.RegisterCases.{none_there}
use Rattle.tables.proofs.Registers.{offset_told}
use Rattle.panel.proofs.registers.no_register.Goals as goal

pub returns-then-r-ne-REGISTERS : goal.returns-then-r-ne-REGISTERS
returns-then-r-ne-REGISTERS c = none_there _ _ (omega arith)

pub returns : goal.returns
returns c = sym (offset_told _ _ (omega arith))
