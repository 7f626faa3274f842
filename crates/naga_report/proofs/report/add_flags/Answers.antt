use Rattle.std.proofs.Common.{◌≡◌, ◌^◌, ◌-◌, [], Some, false, ap, ◌∙◌, arith}
use Rattle.std.specs.Option.{option_map}
use Rattle.std.specs.Fmt.{styled_digits_output, padded_integral, format_spec}
use Rattle.std.proofs.lemmas.Fmt.{hex_byte as hex_byte_lem}
use Rattle.naga_report.specs.Report.{hex_byte}
use Rattle.naga_report.proofs.report.add_flags.Goals as goal

pub returns : goal.returns
returns c =
    let spec = format_spec 32 0 4 2 (2 ^ 64 - 1) in
    let digits : styled_digits_output c.in_radix.result c.laid_out.result ≡ Some (hex_byte c.args.flags.0) =
    ap (styled_digits_output c.in_radix.result) c.laid_out.ensures
    ∙ ap (option_map (padded_integral spec false [])) c.in_radix.ensures
    ∙ ap Some (hex_byte_lem false c.bits-bits.result (omega (arith, c.bits-bits.type_inv)))
    ∙ ap (λ n. Some (hex_byte n)) (c.bits-bits.ensures tt) in
    rw c.index-index.ensures.value at (rw digits at c.write.ensures.bytes)
