use Rattle.page_refusals.proofs.ranges.GroupedDisplay.+fmt.Given as goal

abbrev pub decreases-fmt : goal.decreases-fmt
decreases-fmt g l = l.self.now.0
