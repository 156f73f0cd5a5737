use Rattle.image_form_sections.proofs.node_rules.+is_shallow.Given as goal

abbrev pub decreases-is_shallow : goal.decreases-is_shallow
decreases-is_shallow l = l.depth
