use Rattle.glossary.proofs.options.out_of_the_money.Goals as goal

pub returns : goal.returns
returns g c = rw (c.price.ensures, c.out_of_the_money_call.ensures, c.out_of_the_money_put.ensures) at c.format.ensures.ok
