use Rattle.ocm_log_files.proofs.lines.lines_end.Given as goal

-- each piece is read ahead of the one before
abbrev pub decreases-loop-end : goal.decreases-loop-end
decreases-loop-end l = l.end
