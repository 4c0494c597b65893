use Rattle.std.proofs.Common.{string_bytes, arith}
use Rattle.listing.proofs.Listing.{text_more}
use Rattle.listing.proofs.lines.lines_text.Goals as goal

pub loop-line-preserved : goal.loop-line-preserved
loop-line-preserved c =
    text_more c.args.lines.now c.loop-line.line-index _ _ (string_bytes c.writeln.new.self) (omega arith) c.loop-line.invariant c.in_ok-writeln.ensures.bytes
