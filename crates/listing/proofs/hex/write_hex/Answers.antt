use Rattle.std.proofs.Common.{◌≡◌, string_bytes, ap, ◌∙◌, arith}
use Rattle.std.proofs.lemmas.List.{take_all}
use Rattle.listing.specs.Digits.{hex_of}
use Rattle.listing.specs.Hex.{read_hex}
use Rattle.listing.proofs.WrittenHex.{byte_more, read_back}
use Rattle.listing.proofs.hex.write_hex.Goals as goal

pub loop-byte-preserved : goal.loop-byte-preserved
loop-byte-preserved c =
    byte_more c.args.bytes.now c.loop-byte.byte-index
    (string_bytes c.loop-byte.text) (string_bytes c.push.new.self) (string_bytes c.push-in-loop-byte.new.self)
    c.hex_digit.result c.hex_digit-in-loop-byte.result
    (omega arith) (omega (arith, c.type_inv.bytes c.loop-byte.byte-index))
    c.loop-byte.invariant c.hex_digit.ensures c.hex_digit-in-loop-byte.ensures
    c.in_ok-push.ensures.bytes c.in_ok-push-2.ensures.bytes

pub returns : goal.returns
returns c =
    let bytes = c.args.bytes.now in
    let whole : string_bytes c.loop-byte.text ≡ hex_of bytes = c.loop-byte.invariant ∙ ap hex_of (take_all c.loop-byte.byte-index bytes (omega arith)) in
    record { digits = whole; read_back = λ few. ap read_hex whole ∙ read_back bytes (λ i. omega (arith, c.type_inv.bytes i)) few }
