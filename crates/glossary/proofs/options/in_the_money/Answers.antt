use Rattle.glossary.proofs.options.in_the_money.Goals as goal

pub returns : goal.returns
returns g c = rw (c.price.ensures, c.in_the_money_call.ensures, c.in_the_money_put.ensures) at c.format.ensures.ok
