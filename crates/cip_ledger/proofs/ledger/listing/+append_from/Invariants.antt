use Rattle.cip_ledger.proofs.ledger.listing.+append_from.Given as goal

abbrev pub decreases-append_from : goal.decreases-append_from
decreases-append_from l = l.space
