use Rattle.naga_tests.proofs.tests.laws.strides_fit.Goals as goal

pub returns : goal.returns
returns g c = ((c.strides.ensures c.args.validator.now.infos c.args.info.now.lists).0 c.requires).1
