use Rattle.page_money.proofs.display.GroupedDisplay.+fmt.Given as goal

abbrev pub decreases-fmt : goal.decreases-fmt
decreases-fmt g l = l.self.now.0
