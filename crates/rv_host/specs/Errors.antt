-- The errors of a service.
use Rattle.tu_outside.specs.declared.cabinet.CabinetError.{CabinetError}
use Rattle.tu_outside.specs.declared.cabinet.CabinetError.TheVariants.{Failed, Memory as no_memory}
use Rattle.rv_host.specs.declared.service.ServiceError.{ServiceError}
use Rattle.rv_host.specs.declared.service.ServiceError.TheVariants.{Cabinet, Memory}

-- what an error of the cabinet is to a service
abbrev pub service_error : CabinetError → ServiceError
service_error Failed = Cabinet
service_error no_memory = Memory
