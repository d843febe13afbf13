use Rattle.std.proofs.Common.{◌∙◌, rules}
use Rattle.std.proofs.lemmas.Iterator.{YieldsList-from_slice}
use Rattle.std.proofs.lemmas.Iterator.Search.{position_from_yields_List}
use Rattle.std.specs.Option.{is_none}
use borrow.Author.Tests.{tests}
use Rattle.bays.proofs.Lists.{place_is}
use Rattle.bays.proofs.grants.first_vacant.Goals as goal

pub returns-clause-is : goal.returns-clause-is
returns-clause-is c =
    position_from_yields_List is_none _ _ _ c.position.ensures.ran (YieldsList-from_slice c.args.grants.now cc) (λ x b q k. search (rules, tests))
    ∙ place_is c.args.grants.now
