pub mod WorkloadLaws
