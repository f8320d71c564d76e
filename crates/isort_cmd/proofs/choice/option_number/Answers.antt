-- The number is what the digits of the option write.
use Rattle.std.specs.Str.Parse.{ExplainsUnsignedError, HasUnsignedDigitsIfOk, ParsesUnsigned}
use Rattle.clap.specs.Matches.{found_of}
use Rattle.isort_cmd.proofs.MatchLemmas.{number_found}
use Rattle.isort_cmd.proofs.choice.option_number.Goals as goal

pub returns : goal.returns
returns c = number_found _ (found_of c.args.matches.now) c.args.name.now (λ text r. ParsesUnsigned 32 10 text r × ExplainsUnsignedError 10 text r × HasUnsignedDigitsIfOk text r) (λ text r gives. gives.0) c.get_one.result c.get_one.ensures.none c.get_one.ensures.value
