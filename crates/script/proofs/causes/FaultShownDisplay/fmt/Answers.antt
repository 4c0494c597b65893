use Rattle.std.proofs.Common.{sym, ap, ◌∙◌, subst, arith}
use Rattle.std.specs.Fmt.{HasWritten}
use Rattle.cpu.specs.Faults.{of_bus, stop, stop_of}
use Rattle.script.specs.Answers.{stop_text}
use Rattle.script.proofs.WrittenHex.{four_digits}
use Rattle.script.proofs.causes.FaultShownDisplay.fmt.Goals as goal

pub returns-in-Bus-clause-writes : goal.returns-in-Bus-clause-writes
returns-in-Bus-clause-writes g c =
    let cause = c.args.self.now.0.cause in
    let pc = c.args.self.now.0.pc in
    let written = rw (c.in_radix.ensures, c.laid_out.ensures, four_digits c.in-Bus.address (omega arith)) at c.write.ensures.writes in
    λ plain ok.
    subst (λ l. HasWritten g.W.Write.write_str_gives c.args.f.now l c.write.new.self)
    (ap (λ n. stop_text (stop n (of_bus c.in-Bus.address)) pc) c.cause_number-number.ensures
    ∙ ap (λ l. stop_text (stop (stop_of cause).number l) pc) (sym (ap (λ k. (stop_of k).layer) c.in-Bus.is)))
    (written plain ok)
