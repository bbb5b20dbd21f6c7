use Rattle.record_locks.proofs.hex.+push_hex.Given as goal

-- proposed from what the function passes where it calls itself
abbrev pub decreases-push_hex : goal.decreases-push_hex
decreases-push_hex l = l.count
