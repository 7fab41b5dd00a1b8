use Rattle.decl_core.specs.ObjectMap.{object_of}
use Rattle.front_read.proofs.Rowing.{calls_found, calls_none, event_found, event_none}
use Rattle.front_read.proofs.run.run_by.Goals as goal

pub returns-in-Some-operation_of : goal.returns-in-Some-operation_of
returns-in-Some-operation_of c = calls_found (object_of c.args.object.now) c.args.first.now c.args.second.now c.in-Some-operation_of.operation c.in-Some.count c.requires c.in-Some.ensures c.in-Some-operation_of.ensures

pub returns-in-None-operation_of : goal.returns-in-None-operation_of
returns-in-None-operation_of c = calls_none (object_of c.args.object.now) c.args.first.now c.args.second.now c.in-Some.count c.requires c.in-Some.ensures c.in-None-operation_of.ensures

pub returns-in-Some-operation_of-2 : goal.returns-in-Some-operation_of-2
returns-in-Some-operation_of-2 c = event_found (object_of c.args.object.now) c.args.first.now c.args.second.now c.in-Some-operation_of-2.operation c.event_by.result c.requires c.in-None.ensures c.in-Some-operation_of-2.ensures c.event_by.ensures

pub returns-in-None-operation_of-2 : goal.returns-in-None-operation_of-2
returns-in-None-operation_of-2 c = event_none (object_of c.args.object.now) c.args.first.now c.args.second.now c.requires c.in-None.ensures c.in-None-operation_of-2.ensures
