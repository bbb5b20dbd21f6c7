use Rattle.std.proofs.Common.{◌≡◌, ◌∙◌, ap, Some}
use Rattle.clap.specs.Words.{Rule, rule_of}
use Rattle.clap.specs.declared.builder.arg.Arg.{Arg}
use Rattle.clap.specs.declared.builder.action.ArgAction.TheVariants.{Set}
use Rattle.clap.specs.declared.builder.value_parser.ValueParser.TheVariants.{NonEmptyString}
use Rattle.option_reader.proofs.command.option_named.Goals as goal

pub returns : goal.returns
returns c =
    let parser = c.value_parser.ensures.given in
    let name = c.args.name in
    let others : rule_of c.value_parser.result ≡ record (rule_of c.action.result) { parser = c.value_parser.result.value_parser } = ap rule_of c.value_parser.ensures.others in
    let set : rule_of c.action.result ≡ record (rule_of c.long.result) { action = Some Set } = ap rule_of c.action.ensures in
    let long : rule_of c.long.result ≡ record (rule_of c.new.result) { long = Some name.now } = ap rule_of c.long.ensures in
    record {
      rule = others
          ∙ ap (λ p. record (rule_of c.action.result) { parser = p }) (parser.1 ∙ ap Some parser.2)
          ∙ ap (λ (r : Rule). record r { parser = Some NonEmptyString })
          (set ∙ ap (λ (r : Rule). record r { action = Some Set })
          (long ∙ ap (λ (r : Rule). record r { long = Some name.now }) c.new.ensures.rule));
      local = ap (λ (a : Arg). a.global) c.value_parser.ensures.others ∙ ap (λ (a : Arg). a.global) c.action.ensures ∙ ap (λ (a : Arg). a.global) c.long.ensures ∙ c.new.ensures.optional.1;
    }
