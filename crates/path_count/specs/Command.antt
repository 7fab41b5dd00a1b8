-- A command, without where its words lie.
use Rattle.path_count.specs.declared.paths.command.Command.{Command}
use Rattle.path_count.specs.declared.paths.command.Command.TheVariants as commands
use Rattle.path_count.specs.Words.{words}
use Rattle.path_count.specs.Asked.{Asked, operations, path, start, finish, other}

abbrev pub asked_of_command : Command → Asked
asked_of_command (commands.Operations names) = operations (words names.now)
asked_of_command commands.Path = path
asked_of_command (commands.Start name) = start name.now
asked_of_command (commands.Finish name) = finish name.now
asked_of_command commands.Other = other
